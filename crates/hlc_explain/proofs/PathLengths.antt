-- How many events shortest paths have, event by event.
use Rattle.std.proofs.Common.{◌≡◌, ◌∙◌, ℕ, zero, suc, ◌+◌, ◌==◌, ◌-◌, ◌<◌, ◌≤◌, ◌⊎◌, inl, inr, Bool, true, false, List, [], ◌∷◌, ◌++◌, get_or, length, Option, Some, None, append_assoc, arith, refl, subst, sym, ap}
use Rattle.std.specs.Prelude.{IfSome, IsSome, MatchOption, if◌then◌else◌, nat_le, option_map}
use Rattle.std.specs.declared.alloc.Global.{Global}
use Rattle.std.specs.declared.vec.Vec.{Vec}
use Rattle.std.proofs.lemmas.Bool.{cases_Bool, cases_eq}
use Rattle.std.proofs.lemmas.Bool.Decides.{nat_tests}
use Rattle.std.proofs.lemmas.List.{append-nil, get_or_append_left, get_or_default, get_or_push, length_push}
use Rattle.hlc_stamp.specs.Ids.{places_of}
use Rattle.hlc_stamp.specs.declared.id.EventId.{EventId}
use Rattle.hlc_causality.specs.Causality.{IsDirectPredecessor, IsPrevious, IsSendOf, Skeleton}
use Rattle.hlc_causality.specs.Neighbours.{NamesPrevious, NamesSend, place_of}
use Rattle.hlc_causality.specs.Past.{IsInPast}
use Rattle.hlc_causality.specs.Predecessors.{previous_of, send_of}
use Rattle.hlc_causality.proofs.Predecessors.{direct_earlier}
use Rattle.hlc_causality.proofs.PredecessorsFound.{Finds, previous_found, send_found}
use Rattle.hlc_explain.specs.Paths.{ArePathLengths, IsDirectPath, IsPathFound, IsShortestPath, path_of, path_to, path_within, shorter}
use Rattle.hlc_explain.proofs.NamedLinks.{previous_named, send_named}
use Rattle.hlc_explain.proofs.ShortestPaths.{leads_rise, paths_are_found}

-- the path to a link's event is the same by both functions, if it is so of each event that the link may name
same_to : (P : ℕ → Type 0) (a b : ℕ → Option (List ℕ)) (link : Option ℕ) → Finds P link → ((d : ℕ) → P d → a d ≡ b d) → path_to a link ≡ path_to b link
same_to P a b None none same = refl
same_to P a b (Some d) found same = same d found

module _ (s : Skeleton) (e : ℕ) where
  -- the path by the direct predecessors of f
  abbrev pub path_by : ℕ → (ℕ → Option (List ℕ)) → Option (List ℕ)
  path_by f path =
      if e == f then Some (f ∷ []) else
      option_map (λ path. path ++ f ∷ []) (shorter (path_to path (previous_of s f)) (path_to path (send_of s f)))

  same_by : (f : ℕ) (a b : ℕ → Option (List ℕ)) → f < length s → ((d : ℕ) → IsDirectPredecessor s d f → a d ≡ b d) → path_by f a ≡ path_by f b
  same_by f a b exists same =
      let previous = same_to (λ d. IsPrevious s d f) a b (previous_of s f) (previous_found s f exists) (λ d h. same d (inl h)) in
      let send = same_to (λ d. IsSendOf s d f) a b (send_of s f) (send_found s f exists) (λ d h. same d (inr h)) in
      rw (previous, send) refl

  -- more events than there are places make no other path
  same_within : (n m f : ℕ) → f < n → f < m → f < length s → path_within s e n f ≡ path_within s e m f
  same_within zero m f lt also exists = absurd (omega (arith, lt))
  same_within (suc n) zero f lt also exists = absurd (omega (arith, also))
  same_within (suc n) (suc m) f lt also exists = same_by f (path_within s e n) (path_within s e m) exists (λ d direct.
      let earlier = direct_earlier s d f direct in
      same_within n m d (omega arith) (omega arith) (omega arith))

  -- the path to an event is by those to its direct predecessors
  pub path_step : (f : ℕ) → f < length s → path_of s e f ≡ path_by f (path_of s e)
  path_step f exists = same_by f (path_within s e f) (path_of s e) exists (λ d direct.
      let earlier = direct_earlier s d f direct in
      same_within f (suc d) d earlier (omega arith) (omega arith))

module _ (s : Skeleton) (e f : ℕ) (exists : f < length s) where
  abbrev further : Option (List ℕ)
  further = option_map (λ path. path ++ f ∷ []) (shorter (path_to (path_of s e) (previous_of s f)) (path_to (path_of s e) (send_of s f)))

  path_alone : (e == f) ≡ true → path_of s e f ≡ Some (f ∷ [])
  path_alone here = path_step s e f exists ∙ ap (λ (b : Bool). if b then Some (f ∷ []) else further) here

  path_further : (e == f) ≡ false → path_of s e f ≡ further
  path_further apart = path_step s e f exists ∙ ap (λ (b : Bool). if b then Some (f ∷ []) else further) apart

path_rises : (s : Skeleton) (e : ℕ) (path : List ℕ) (f : ℕ) → IsDirectPath s e path f → e + length path ≤ f + 1
path_rises s e [] f h = absurd h
path_rises s e (first ∷ rest) f h = let most = leads_rise s e rest f h.1 in omega arith

-- there are no more events than places
pub few_on_path : (s : Skeleton) (e f : ℕ) (path : List ℕ) → f < length s → path_of s e f ≡ Some path → e + length path ≤ f + 1
few_on_path s e f path exists is =
    path_rises s e path f (subst (IsPathFound s e f) is (paths_are_found s e f exists)).leads

at_least_one : (s : Skeleton) (e : ℕ) (path : List ℕ) (f : ℕ) → IsDirectPath s e path f → 1 ≤ length path
at_least_one s e [] f h = absurd h
at_least_one s e (first ∷ rest) f h = omega arith

-- nor is there a path to an event that comes earlier
pub none_to_earlier : (s : Skeleton) (e f : ℕ) → f < length s → f < e → path_of s e f ≡ None
none_to_earlier s e f exists lt = by_path (path_of s e f) refl
  where
    by_path : (o : Option (List ℕ)) → path_of s e f ≡ o → path_of s e f ≡ None
    by_path None is = is
    by_path (Some path) is =
        let most = few_on_path s e f path exists is in
        let least = at_least_one s e path f (subst (IsPathFound s e f) is (paths_are_found s e f exists)).leads in
        absurd (omega arith)

-- what is known of an event that comes earlier than the first: no path
pub no_length : (s : Skeleton) (e : ℕ) (link : Option EventId) (event : EventId) → link ≡ Some event → e < length s → event.0 < e
    → None ≡ option_map (λ (path : List ℕ). length path) (path_to (path_of s e) (place_of link))
no_length s e None event is exists lt = absurd cc
no_length s e (Some d) event is exists lt =
    let same : d.0 ≡ event.0 = cc in
    ap (λ (o : Option (List ℕ)). option_map (λ (path : List ℕ). length path) o) (sym (none_to_earlier s e d.0 (omega arith) (omega arith)))

-- what is known of a later one
pub known_length : (s : Skeleton) (e : ℕ) (lengths : List (Option ℕ)) (link : Option EventId) (event : EventId) (n : Option ℕ) →
    ArePathLengths s e lengths → link ≡ Some event → e ≤ event.0 → event.0 < e + length lengths →
    n ≡ get_or lengths (event.0 - e) n → n ≡ option_map (λ (path : List ℕ). length path) (path_to (path_of s e) (place_of link))
known_length s e lengths None event n known is from within read = absurd cc
known_length s e lengths (Some d) event n known is from within read =
    let same : d.0 ≡ event.0 = cc in
    let at : e + (event.0 - e) ≡ d.0 = omega arith in
    read ∙ get_or_default lengths (event.0 - e) n None (omega arith) ∙ known.each (event.0 - e) (omega arith)
    ∙ ap (λ (k : ℕ). option_map (λ (path : List ℕ). length path) (path_of s e k)) at

-- of no event it is known at first, and then of one more
pub nothing_known : (s : Skeleton) (e : ℕ) (lengths : List (Option ℕ)) → e < length s → lengths ≡ [] → ArePathLengths s e lengths
nothing_known s e [] exists is = record { exists = exists; each = λ k lt. absurd (omega arith) }
nothing_known s e (x ∷ lengths) exists is = absurd cc

pub one_more_known : (s : Skeleton) (e place : ℕ) (lengths more : List (Option ℕ)) (x : Option ℕ) → ArePathLengths s e lengths →
    e + length lengths ≡ place → x ≡ option_map (λ (path : List ℕ). length path) (path_of s e place) → more ≡ lengths ++ x ∷ [] →
    ArePathLengths s e more
one_more_known s e place lengths more x known next is pushed = subst (ArePathLengths s e) (sym pushed) (record {
  exists = known.exists;
  each = λ k lt.
      let size = length_push lengths x in
      elim (cases_eq k (length lengths)) [
        | inl last ↦
            let here : place ≡ e + k = omega arith in
            get_or_push lengths x None k (sym last) ∙ is ∙ ap (λ (d : ℕ). option_map (λ (path : List ℕ). length path) (path_of s e d)) here
        | inr ne ↦ get_or_append_left lengths (x ∷ []) None k (omega arith) ∙ known.each k (omega arith)
      ];
})

-- which of two paths is the shorter, by their lengths
shorter_second : (a b : Option (List ℕ)) → option_map (λ (path : List ℕ). length path) a ≡ None → shorter a b ≡ b
shorter_second None b none = refl
shorter_second (Some path) b none = absurd cc

shorter_first : (a b : Option (List ℕ)) → option_map (λ (path : List ℕ). length path) b ≡ None → shorter a b ≡ a
shorter_first None None none = refl
shorter_first (Some path) None none = refl
shorter_first a (Some path) none = absurd cc

shorter_by : (a b : Option (List ℕ)) (n m : ℕ) → option_map (λ (path : List ℕ). length path) a ≡ Some n
    → option_map (λ (path : List ℕ). length path) b ≡ Some m → shorter a b ≡ (if nat_le n m then a else b)
shorter_by None b n m left right = absurd cc
shorter_by (Some path) None n m left right = absurd cc
shorter_by (Some path) (Some other) n m left right =
    let first : n ≡ length path = cc in
    let second : m ≡ length other = cc in
    rw (first, second) refl

module _ (s : Skeleton) (e f : ℕ) (exists : f < length s) (previous send : Option EventId) (is_previous : NamesPrevious s f previous)
    (is_send : NamesSend s f send) where
  abbrev by_previous : Option (List ℕ)
  by_previous = path_to (path_of s e) (place_of previous)

  abbrev by_send : Option (List ℕ)
  by_send = path_to (path_of s e) (place_of send)

  abbrev by_both : Option (List ℕ)
  by_both = shorter (path_to (path_of s e) (previous_of s f)) (path_to (path_of s e) (send_of s f))

  by_names : shorter by_previous by_send ≡ by_both
  by_names =
      ap (λ (d : Option ℕ). shorter (path_to (path_of s e) d) by_send) (previous_named s f exists previous is_previous)
      ∙ ap (λ (d : Option ℕ). shorter (path_to (path_of s e) (previous_of s f)) (path_to (path_of s e) d)) (send_named s f exists send is_send)

  pub back_by_send : option_map (λ (path : List ℕ). length path) by_previous ≡ None → by_send ≡ by_both
  back_by_send none = sym (shorter_second by_previous by_send none) ∙ by_names

  pub back_by_previous : option_map (λ (path : List ℕ). length path) by_send ≡ None → by_previous ≡ by_both
  back_by_previous none = sym (shorter_first by_previous by_send none) ∙ by_names

  module _ (n m : ℕ) (left : option_map (λ (path : List ℕ). length path) by_previous ≡ Some n)
      (right : option_map (λ (path : List ℕ). length path) by_send ≡ Some m) where
    pub back_by_less : n ≤ m → by_previous ≡ by_both
    back_by_less le =
        let test : nat_le n m ≡ true = grind (arith, nat_tests, le) in
        let first : shorter by_previous by_send ≡ by_previous = rw test at (shorter_by by_previous by_send n m left right) in
        sym first ∙ by_names

    pub back_by_more : m < n → by_send ≡ by_both
    back_by_more lt =
        let test : nat_le n m ≡ false = grind (arith, nat_tests, lt) in
        let second : shorter by_previous by_send ≡ by_send = rw test at (shorter_by by_previous by_send n m left right) in
        sym second ∙ by_names

-- the path to an event has one event more than that to the direct predecessor from which it comes
pub length_step : (s : Skeleton) (e f : ℕ) (o : Option (List ℕ)) (n : Option ℕ) → f < length s → (f == e) ≡ false →
    o ≡ shorter (path_to (path_of s e) (previous_of s f)) (path_to (path_of s e) (send_of s f)) →
    n ≡ option_map (λ (path : List ℕ). length path) o →
    option_map (λ (k : ℕ). k + 1) n ≡ option_map (λ (path : List ℕ). length path) (path_of s e f)
length_step s e f o n exists apart is size =
    let other : (e == f) ≡ false = grind (arith, nat_tests, apart) in
    let step = path_further s e f exists other in
    ap (λ (k : Option ℕ). option_map (λ (i : ℕ). i + 1) k) size
    ∙ longer o
    ∙ ap (λ (x : Option (List ℕ)). option_map (λ (path : List ℕ). length path) (option_map (λ (path : List ℕ). path ++ f ∷ []) x)) is
    ∙ ap (λ (x : Option (List ℕ)). option_map (λ (path : List ℕ). length path) x) (sym step)
  where
    longer : (o : Option (List ℕ)) → option_map (λ (i : ℕ). i + 1) (option_map (λ (path : List ℕ). length path) o)
        ≡ option_map (λ (path : List ℕ). length path) (option_map (λ (path : List ℕ). path ++ f ∷ []) o)
    longer None = refl
    longer (Some path) = ap (λ (k : ℕ). Some k) (sym (length_push path f))

-- and that has no more events than there are places up to f
pub length_fits : (s : Skeleton) (e f : ℕ) (link : Option EventId) (n : ℕ) → f < length s → IfSome link (λ d. d.0 < f) →
    Some n ≡ option_map (λ (path : List ℕ). length path) (path_to (path_of s e) (place_of link)) → n ≤ f
length_fits s e f None n exists earlier is = absurd cc
length_fits s e f (Some d) n exists earlier is = by_path (path_of s e d.0) refl is
  where
    by_path : (o : Option (List ℕ)) → path_of s e d.0 ≡ o → Some n ≡ option_map (λ (path : List ℕ). length path) o → n ≤ f
    by_path None at size = absurd cc
    by_path (Some path) at size =
        let same : n ≡ length path = cc in
        let few = few_on_path s e d.0 path (omega (arith, earlier, exists)) at in
        omega (arith, few, same, earlier)

-- so many steps lead on from the first event to at, and then the rest leads to last
abbrev pub IsFollowedBack : Skeleton → (e last at left : ℕ) → List EventId → Type 0
IsFollowedBack s e last at left rest =
    (front : List ℕ) × (path_of s e at ≡ Some front) × (length front ≡ left + 1) × (path_of s e last ≡ Some (front ++ places_of rest))

-- a path that has a length is there
with_length : (o : Option (List ℕ)) (n : ℕ) → Some n ≡ option_map (λ (path : List ℕ). length path) o → (path : List ℕ) × (o ≡ Some path) × (length path ≡ n)
with_length None n is = absurd cc
with_length (Some path) n is = (path, refl, cc)

pub followed_first : (s : Skeleton) (e last n : ℕ) → last < length s → Some n ≡ option_map (λ (path : List ℕ). length path) (path_of s e last)
    → (left : ℕ) × (left + 1 ≡ n) × IsFollowedBack s e last last left []
followed_first s e last n exists is =
    let (path, found, size) = with_length (path_of s e last) n is in
    let some = at_least_one s e path last (subst (IsPathFound s e last) found (paths_are_found s e last exists)).leads in
    let left : length path - 1 + 1 ≡ n = omega arith in
    (length path - 1, left, (path, found, omega arith, found ∙ ap (λ (p : List ℕ). Some p) (sym (append-nil path))))

module _ (s : Skeleton) (e last : ℕ) (at : EventId) (exists : at.0 < length s) (left : ℕ) (rest : List EventId)
    (h : IsFollowedBack s e last at.0 left rest) where
  -- what is left is a step back
  before_last : (o : Option (List ℕ)) → 1 ≤ left
      → o ≡ shorter (path_to (path_of s e) (previous_of s at.0)) (path_to (path_of s e) (send_of s at.0))
      → (before : List ℕ) × (o ≡ Some before) × (h.0 ≡ before ++ at.0 ∷ [])
  before_last o more is = by_test (cases_Bool (e == at.0))
    where
      by_step : (o : Option (List ℕ)) → option_map (λ (path : List ℕ). path ++ at.0 ∷ []) o ≡ Some h.0
          → (before : List ℕ) × (o ≡ Some before) × (h.0 ≡ before ++ at.0 ∷ [])
      by_step None none = absurd cc
      by_step (Some before) some = let same : before ++ at.0 ∷ [] ≡ h.0 = cc in (before, refl, sym same)

      by_test : ((e == at.0) ≡ true) ⊎ ((e == at.0) ≡ false) → (before : List ℕ) × (o ≡ Some before) × (h.0 ≡ before ++ at.0 ∷ [])
      by_test (inl here) =
          let both : Some (at.0 ∷ []) ≡ Some h.0 = sym (path_alone s e at.0 exists here) ∙ h.1 in
          let alone : at.0 ∷ [] ≡ h.0 = cc in
          let size = ap (λ (p : List ℕ). length p) alone in
          absurd (omega (arith, size, h.2, more))
      by_test (inr apart) =
          by_step o (ap (λ (x : Option (List ℕ)). option_map (λ (path : List ℕ). path ++ at.0 ∷ []) x) is
          ∙ sym (path_further s e at.0 exists apart) ∙ h.1)

  module _ (link : Option EventId) (more : 1 ≤ left)
      (is : path_to (path_of s e) (place_of link) ≡ shorter (path_to (path_of s e) (previous_of s at.0)) (path_to (path_of s e) (send_of s at.0))) where
    pub step_is_there : IsSome link
    step_is_there = by_link link (before_last (path_to (path_of s e) (place_of link)) more is).0 (before_last (path_to (path_of s e) (place_of link)) more is).1
      where
        by_link : (o : Option EventId) (before : List ℕ) → path_to (path_of s e) (place_of o) ≡ Some before → IsSome o
        by_link None before none = absurd cc
        by_link (Some d) before some = refl

    pub followed_more : (before : EventId) → link ≡ Some before
        → (less : ℕ) × (less + 1 ≡ left) × IsFollowedBack s e last before.0 less (at ∷ rest)
    followed_more before names =
        let (path, found, split) = before_last (path_to (path_of s e) (place_of link)) more is in
        let size : length h.0 ≡ length path + 1 = ap (λ (p : List ℕ). length p) split ∙ length_push path at.0 in
        let counted = h.2 in
        let there : path_of s e before.0 ≡ Some path = sym (ap (λ (o : Option EventId). path_to (path_of s e) (place_of o)) names) ∙ found in
        let whole = h.3 ∙ ap (λ (p : List ℕ). Some (p ++ places_of rest)) split ∙ ap (λ (p : List ℕ). Some p) (append_assoc path (at.0 ∷ []) (places_of rest)) in
        (left - 1, omega arith, (path, there, omega arith, whole))

  -- with no step left the list is the path
  pub followed_whole : left ≡ 0 → path_of s e last ≡ Some (places_of (at ∷ rest))
  followed_whole none =
      let leads = (subst (IsPathFound s e at.0) h.1 (paths_are_found s e at.0 exists)).leads in
      h.3 ∙ ap (λ (p : List ℕ). Some (p ++ places_of rest)) (alone h.0 leads (omega (arith, none, h.2)))
    where
      alone : (front : List ℕ) → IsDirectPath s e front at.0 → length front ≡ 1 → front ≡ at.0 ∷ []
      alone [] leads one = absurd leads
      alone (x ∷ []) leads one = ap (λ (n : ℕ). n ∷ []) (leads.0 ∙ leads.1)
      alone (x ∷ (y ∷ front)) leads one = absurd (omega arith)

-- the list that is found is a shortest path
pub found_shortest : (s : Skeleton) (e f : ℕ) (found : Option (Vec EventId Global)) → f < length s →
    option_map (λ (list : Vec EventId Global). places_of list.items) found ≡ path_of s e f →
    MatchOption found (¬ IsInPast s e f) (λ list. IsShortestPath s e f (places_of list.items))
found_shortest s e f None exists is = subst (IsPathFound s e f) (sym is) (paths_are_found s e f exists)
found_shortest s e f (Some list) exists is = subst (IsPathFound s e f) (sym is) (paths_are_found s e f exists)
