-- The lanes of nodes.
use Rattle.std.proofs.Common.{◌≡◌, ◌≢◌, ◌∙◌, ◌⊎◌, ℕ, zero, suc, ◌+◌, ◌<◌, ◌≤◌, ◌==◌, Bool, true, false, cond, inl, inr, All, Contains, List, [], ◌∷◌, Ok, Err, Result, arith, ap, eqb, filter, get_or, length, map, refl, subst, sym}
use Rattle.std.specs.Prelude.{IsPermutation, MatchResult, is_ok, nat_lt}
use Rattle.std.specs.List.{dedup}
use Rattle.std.specs.List.Sorted.{IsBinarySearchResult, IsSorted, IsStrictlyIncreasing}
use Rattle.std.specs.Ordering.{nat_cmp}
use Rattle.std.proofs.lemmas.Bool.{cases_Bool, cases_eq}
use Rattle.std.proofs.lemmas.Bool.Decides.{nat_tests}
use Rattle.std.proofs.lemmas.List.Elements.{All-append, All-cons, All-contains, All-head, All-nil, All-tail, Contains-append_left, Contains-append_right, Contains-get_or}
use Rattle.std.proofs.lemmas.List.Kept.{AllPairs-from_increasing, Contains-dedup_nat, Contains-from_dedup}
use Rattle.std.proofs.lemmas.List.Sorted.{Contains-permutation, IsPermutation-sym, searched}
use Rattle.std.proofs.lemmas.List.Sums.{count_by-le-length, length-filter, sum_by-cons}
use Rattle.std.proofs.lemmas.Map.Keys.{IsStrictlyIncreasing-dedup}
use Rattle.hlc_stamp.specs.Ids.{is_among}
use Rattle.hlc_causality.specs.Places.{places_below}
use Rattle.hlc_causality.proofs.PlacesBelow.{contains_passing, length-places_below, passing_from_contains, passing_places_rise, place_at}
use Rattle.hlc_explain.proofs.Findings.{rising_is_unique}
use Rattle.hlc_figures.specs.Columns.{places_from}
use Rattle.hlc_figures.specs.Content.{Content, NodesExist, node_at}
use Rattle.hlc_figures.specs.Lanes.{AreInOrder, lane_of, lanes_of}

-- what is tested to be among some numbers is there
pub among_from : (list : List ℕ) (e : ℕ) → is_among list e ≡ true → Contains list e
among_from [] e h = absurd (cc)
among_from (d ∷ list) e h =
    elim (cases_Bool (e == d)) [
      | inl is ↦ let same : d ≡ e = grind (arith, nat_tests, is) in Contains-append_left (d ∷ []) list e (0, omega arith, same)
      | inr isnt ↦ Contains-append_right (d ∷ []) list e (among_from list e (rw isnt at h))
    ]

pub among_at : (list : List ℕ) (e k : ℕ) → k < length list → get_or list k e ≡ e → is_among list e ≡ true
among_at [] e k lt h = absurd (omega arith)
among_at (d ∷ list) e zero lt h = let is : (e == d) ≡ true = (let same : d ≡ e = h in grind (arith, nat_tests, same)) in rw is refl
among_at (d ∷ list) e (suc k) lt h =
    elim (cases_Bool (e == d)) [ inl is ↦ rw is refl | inr isnt ↦ rw isnt (among_at list e k (omega arith) h) ]

none_among : (list : List ℕ) (e : ℕ) → ((k : ℕ) → k < length list → get_or list k 0 ≢ e) → is_among list e ≡ false
none_among [] e none = refl
none_among (d ∷ list) e none =
    let differs : d ≢ e = none 0 (omega arith) in
    let isnt : (e == d) ≡ false = grind (arith, nat_tests, differs) in
    rw isnt (none_among list e (λ k lt. none (suc k) (omega arith)))

-- what a number counts for among those before a node
abbrev pub counts : (node other : ℕ) → ℕ
counts node other = cond (nat_lt other node) 1 0

-- so many of some numbers come before one, if these stand first
counted_before :
    (xs : List ℕ) (node k : ℕ) → k ≤ length xs → ((i : ℕ) → i < k → get_or xs i 0 < node) →
    ((i : ℕ) → k ≤ i → i < length xs → node ≤ get_or xs i 0) → lane_of xs node ≡ k
counted_before [] node k le before after = omega arith
counted_before (x ∷ xs) node zero le before after =
    let high : node ≤ x = after 0 (omega arith) (omega arith) in
    let test : nat_lt x node ≡ false = grind (arith, nat_tests, high) in
    let rest = counted_before xs node 0 (omega arith) (λ i lt. absurd (omega arith)) (λ i from within. after (suc i) (omega arith) (omega arith)) in
    let more : lane_of (x ∷ xs) node ≡ counts node x + lane_of xs node = sum_by-cons (counts node) x xs in
    let none : counts node x ≡ 0 = rw test refl in
    omega (arith, more, none, rest)
counted_before (x ∷ xs) node (suc k) le before after =
    let low : x < node = before 0 (omega arith) in
    let test : nat_lt x node ≡ true = grind (arith, nat_tests, low) in
    let rest = counted_before xs node k (omega arith) (λ i lt. before (suc i) (omega arith)) (λ i from within. after (suc i) (omega arith) (omega arith)) in
    let more : lane_of (x ∷ xs) node ≡ counts node x + lane_of xs node = sum_by-cons (counts node) x xs in
    let one : counts node x ≡ 1 = rw test refl in
    omega (arith, more, one, rest)

-- a lane has a node before it, if that has one
pub counts_one : (xs : List ℕ) (first node : ℕ) → is_among xs first ≡ true → first < node → 0 < lane_of xs node
counts_one [] first node among lt = absurd (cc)
counts_one (x ∷ xs) first node among lt =
    let more : lane_of (x ∷ xs) node ≡ counts node x + lane_of xs node = sum_by-cons (counts node) x xs in
    elim (cases_Bool (nat_lt x node)) [
      | inl low ↦ let one : counts node x ≡ 1 = rw low refl in omega (arith, more, one)
      | inr high ↦
          let ge : node ≤ x = grind (arith, nat_tests, high) in
          let isnt : (first == x) ≡ false = grind (arith, nat_tests, ge, lt) in
          let rest : 0 < lane_of xs node = counts_one xs first node (rw isnt at among) lt in
          omega (arith, more, rest)
    ]

-- where a search ends among the numbers of nodes
module _ (xs : List ℕ) (node : ℕ) (rising : IsStrictlyIncreasing xs) where
  rises : (i j : ℕ) → i ≤ j → j < length xs → get_or xs i 0 ≤ get_or xs j 0
  rises i j le lt =
      elim (cases_eq i j) [
        | inl same ↦ rw same (omega arith)
        | inr differ ↦ (let less : get_or xs i 0 < get_or xs j 0 = AllPairs-from_increasing xs rising i j 0 (omega arith) lt in omega arith)
      ]

  lane_searched : (r : Result ℕ ℕ) → IsBinarySearchResult (λ y. nat_cmp y node) xs r → MatchResult r (λ i. lane_of xs node ≡ i) (λ i. lane_of xs node ≡ i)
  lane_searched (Ok i) found =
      let (lt, is) = searched xs node (Ok i) found rises in
      counted_before xs node i (omega arith)
      (λ k before. let less : get_or xs k 0 < get_or xs i 0 = AllPairs-from_increasing xs rising k i 0 before lt in omega arith)
      (λ k from within. let no_less : get_or xs i 0 ≤ get_or xs k 0 = rises i k from within in omega arith)
  lane_searched (Err i) found =
      let (le, before, after) = searched xs node (Err i) found rises in
      counted_before xs node i le before (λ k from within. let more : node < get_or xs k 0 = after k from within in omega arith)

  pub lane_found : (r : Result ℕ ℕ) (place : ℕ) → IsBinarySearchResult (λ y. nat_cmp y node) xs r → (r ≡ Ok place) ⊎ (r ≡ Err place) →
      lane_of xs node ≡ place
  lane_found r place found is =
      let there = lane_searched r found in
      elim is [
        | inl ok ↦ subst (λ (r : Result ℕ ℕ). MatchResult r (λ i. lane_of xs node ≡ i) (λ i. lane_of xs node ≡ i)) ok there
        | inr err ↦ subst (λ (r : Result ℕ ℕ). MatchResult r (λ i. lane_of xs node ≡ i) (λ i. lane_of xs node ≡ i)) err there
      ]

  pub has_searched : (r : Result ℕ ℕ) → IsBinarySearchResult (λ y. nat_cmp y node) xs r → is_ok r ≡ is_among xs node
  has_searched (Ok i) found =
      let (lt, is) = searched xs node (Ok i) found rises in
      let (k, within, at) = subst (λ (n : ℕ). Contains xs n) is (Contains-get_or xs i 0 lt) in
      sym (among_at xs node k within at)
  has_searched (Err i) found =
      let (le, before, after) = searched xs node (Err i) found rises in
      sym (none_among xs node (λ k lt same.
      elim (cases_Bool (nat_lt k i)) [
        | inl low ↦ let less : get_or xs k 0 < node = before k (grind (arith, nat_tests, low)) in absurd (omega arith)
        | inr high ↦ let more : node < get_or xs k 0 = after k (grind (arith, nat_tests, high)) lt in absurd (omega arith)
      ]))

-- the nodes of some events, sorted and each once
module _ (n : ℕ) (nodes sorted lanes : List ℕ) (exist : All (λ node. node < n) nodes) (moved : IsPermutation nodes sorted)
    (rise : IsSorted nat_cmp sorted) (once : lanes ≡ dedup eqb sorted) where
  pub lanes_rise : IsStrictlyIncreasing lanes
  lanes_rise = rw once (IsStrictlyIncreasing-dedup sorted rise)

  pub lanes_passed : lanes ≡ filter (λ node. is_among nodes node) (places_below n)
  lanes_passed =
      let test : ℕ → Bool = λ node. is_among nodes node in
      rising_is_unique lanes (filter test (places_below n)) lanes_rise (passing_places_rise test n) (λ node. (
        λ has.
            let kept = subst (λ (xs : List ℕ). Contains xs node) once has in
            let there = Contains-permutation sorted nodes node (IsPermutation-sym nodes sorted moved) (Contains-from_dedup eqb sorted node kept) in
            let exists : node < n = All-contains (λ (node : ℕ). node < n) nodes node exist there in
            let (k, within, at) = there in
            contains_passing test n node exists (among_at nodes node k within at),
        λ passes.
            let there = among_from nodes node (passing_from_contains test n node passes).1 in
            subst (λ (xs : List ℕ). Contains xs node) (sym once) (Contains-dedup_nat sorted node (Contains-permutation nodes sorted node moved there)),
      ))

  pub lanes_few : n < 65536 → length lanes < 65536
  lanes_few fits =
      let test : ℕ → Bool = λ node. is_among nodes node in
      let size = ap (λ (xs : List ℕ). length xs) lanes_passed ∙ length-filter test (places_below n) in
      omega (arith, size, count_by-le-length test (places_below n), length-places_below n)

-- a lane for each node
every_rises : (n : ℕ) → IsStrictlyIncreasing (places_below n)
every_rises n k lt =
    let size = length-places_below n in
    let this = place_at n k (omega arith) in
    let next = place_at n (k + 1) (omega arith) in
    omega arith

pub every_in_order : (n : ℕ) (lanes : List ℕ) → n < 65536 → lanes ≡ places_below n → AreInOrder lanes
every_in_order n lanes fits is = rw is record { rising = every_rises n; few = omega (arith, fits, length-places_below n) }

-- lanes are of nodes
below : (n m : ℕ) → n ≤ m → All (λ node. node < m) (places_below n)
below zero m le = All-nil (λ (node : ℕ). node < m)
below (suc n) m le =
    All-append (λ (node : ℕ). node < m) (places_below n) (n ∷ []) (below n m (omega arith))
    (All-cons (λ (node : ℕ). node < m) n [] (omega arith) (All-nil (λ (node : ℕ). node < m)))

pub lanes_exist : (c : Content) (places : List ℕ) → All (λ node. node < c.nodes) (lanes_of c places)
lanes_exist c places =
    elim (cases_Bool c.every_lane) [
      | inl every ↦ rw every (below c.nodes c.nodes (omega arith))
      | inr some ↦
          let test : ℕ → Bool = λ node. is_among (map (node_at c) places) node in
          rw some (λ k d lt. (passing_from_contains test c.nodes _ (Contains-get_or (filter test (places_below c.nodes)) k d lt)).0)
    ]

-- the nodes at which some events happen
pub nodes_are : (c : Content) → NodesExist c → (places : List ℕ) → All (λ e. e < length c.events) places → All (λ node. node < c.nodes) (map (node_at c) places)
nodes_are c exist [] all = All-nil (λ (node : ℕ). node < c.nodes)
nodes_are c exist (e ∷ places) all =
    All-cons (λ (node : ℕ). node < c.nodes) (node_at c e) (map (node_at c) places) (exist e (All-head (λ (e : ℕ). e < length c.events) e places all))
    (nodes_are c exist places (All-tail (λ (e : ℕ). e < length c.events) e places all))

pub places_exist : (first n count : ℕ) → first + n ≤ count → All (λ e. e < count) (places_from first n)
places_exist first zero count le = All-nil (λ (e : ℕ). e < count)
places_exist first (suc n) count le =
    All-append (λ (e : ℕ). e < count) (places_from first n) ((first + n) ∷ []) (places_exist first n count (omega arith))
    (All-cons (λ (e : ℕ). e < count) (first + n) [] (omega arith) (All-nil (λ (e : ℕ). e < count)))
