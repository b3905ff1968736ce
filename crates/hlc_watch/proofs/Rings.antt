-- Entries in a ring: what is found there, and what stands there once one more is put there.
use Rattle.std.proofs.Common.{◌≡◌, ◌∙◌, ℕ, zero, suc, ◌+◌, ◌-◌, ◌%◌, ◌<◌, ◌≤◌, ◌⊎◌, true, false, cond, List, [], ◌∷◌, ◌++◌, Option, Some, None, length, take, drop, get_or, set, arith, inl, inr, refl, sym, ap, subst}
use Rattle.std.specs.Prelude.{IfSome, bytes_eq, if◌then◌else◌, slice_get}
use Rattle.std.specs.List.{AllByRecursion, IsDistinct, swap_remove}
use Rattle.std.specs.Map.{keys_of, lookup}
use Rattle.std.proofs.lemmas.Bool.{cases_Bool, cases_order}
use Rattle.std.proofs.Math.Nat.{mod-eq_of_lt, mod_self}
use Rattle.std.proofs.lemmas.List.{append-nil, append_assoc, drop_all, drop_at, get_or_push, length-append, length-drop, length-set, length-take-le, set-append_left, set_split, take-append-drop, take_all, take_at}
use Rattle.indexmap.specs.IndexMap.{insert_entry}
use Rattle.hlc_watch.specs.Kept.{latest}
use Rattle.hlc_watch.specs.Ring.{IsRing, items_from}
use Rattle.hlc_watch.proofs.Entries.{latest_all, same_name, some_at}

module _ {X : Type 0} where
  -- from the end of a part on
  from_part : (ls rs : List X) (i : ℕ) → length ls ≡ i → items_from i (ls ++ rs) ≡ rs ++ ls
  from_part ls rs i len = (λ j. drop_at ls rs i len j ++ take_at ls rs i len j)

  -- the last of a list in a place of the others
  replaced : (xs : List X) (x d : X) (i : ℕ) → i < length xs → swap_remove (xs ++ x ∷ []) i d ≡ (take i xs ++ x ∷ []) ++ drop (suc i) xs
  replaced xs x d i within =
      let all = length-append xs (x ∷ []) in
      let last : length (xs ++ x ∷ []) - 1 ≡ length xs = omega arith in
      ap (λ n. take n (set (xs ++ x ∷ []) i (get_or (xs ++ x ∷ []) n d))) last
      ∙ ap (λ y. take (length xs) (set (xs ++ x ∷ []) i y)) (get_or_push xs x d (length xs) refl)
      ∙ ap (take (length xs)) (set-append_left xs (x ∷ []) i x within)
      ∙ take_at (set xs i x) (x ∷ []) (length xs) (length-set xs i x) ∙ set_split xs i x within ∙ sym (append_assoc (take i xs) (x ∷ []) (drop (suc i) xs))

  -- without its first item, a list that goes round goes on from the next place
  drop_next : (xs ys : List X) (i : ℕ) → i < length xs → drop 1 (drop i xs ++ ys) ≡ drop (suc i) xs ++ ys
  drop_next [] ys i within = absurd (omega arith)
  drop_next (x ∷ xs) ys zero within = refl
  drop_next (x ∷ xs) ys (suc i) within = drop_next xs ys i (omega arith)

-- what is so of the item in a place that is within a list, if there is one
pub if_there : {X : Type 0} (P : X → Type 0) (xs : List X) (i : ℕ) (o : Option X) → i < length xs → o ≡ slice_get xs i → IfSome o P → (x : X) × P x
if_there P xs i None within is if_some = let there = some_at xs i within in (let bad : None ≡ Some there.0 = is ∙ there.1 in absurd cc)
if_there P xs i (Some x) within is if_some = (x, if_some)

-- where all names of a list differ from one, that isn't found in a part of it
none_after : {X : Type 0} (k : List ℕ) (ls rs : List (List ℕ × X)) → AllByRecursion (λ y. bytes_eq k y ≡ false) (keys_of (ls ++ rs)) → lookup (bytes_eq k) rs ≡ None
none_after k [] [] all = refl
none_after k [] (b ∷ rs) all = ap (λ t. cond t (Some b.1) (lookup (bytes_eq k) rs)) all.0 ∙ none_after k [] rs all.1
none_after k (a ∷ ls) rs all = none_after k ls rs all.1

module _ {X : Type 0} (m : List ℕ) where
  abbrev find : List (List ℕ × X) → Option X
  find es = lookup (bytes_eq m) es

  -- a name that is found in a part isn't found after it
  apart : (ls rs : List (List ℕ × X)) (v : X) → IsDistinct bytes_eq (keys_of (ls ++ rs)) → find ls ≡ Some v → find rs ≡ None
  unfolding IsDistinct
  apart [] rs v once found = absurd cc
  apart (a ∷ ls) rs v once found = elim (cases_Bool (bytes_eq m a.0)) [
    | inl test ↦ ap (λ k. lookup (bytes_eq k) rs) (same_name m a.0 test) ∙ none_after a.0 ls rs once.0
    | inr test ↦ apart ls rs v once.1 (sym (ap (λ t. cond t (Some a.1) (find ls)) test) ∙ found)
  ]

  find_left : (ls rs : List (List ℕ × X)) (v : X) → find ls ≡ Some v → find (ls ++ rs) ≡ Some v
  find_left [] rs v found = absurd cc
  find_left (a ∷ ls) rs v found = (elim (bytes_eq m a.0) as (λ t. cond t (Some a.1) (find ls) ≡ Some v → cond t (Some a.1) (find (ls ++ rs)) ≡ Some v) [
    | true ↦ λ is. is
    | false ↦ λ is. find_left ls rs v is
  ]) found

  find_right : (ls rs : List (List ℕ × X)) → find ls ≡ None → find (ls ++ rs) ≡ find rs
  find_right [] rs none = refl
  find_right (a ∷ ls) rs none = (elim (bytes_eq m a.0) as (λ t. cond t (Some a.1) (find ls) ≡ None → cond t (Some a.1) (find (ls ++ rs)) ≡ find rs) [
    | true ↦ λ is. absurd cc
    | false ↦ λ is. find_right ls rs is
  ]) none

  -- parts that change places
  find_turned : (ls rs : List (List ℕ × X)) → IsDistinct bytes_eq (keys_of (ls ++ rs)) → find (rs ++ ls) ≡ find (ls ++ rs)
  find_turned ls rs once = by_left (find ls) refl
    where
      by_right : find ls ≡ None → (o : Option X) → find rs ≡ o → find (rs ++ ls) ≡ find (ls ++ rs)
      by_right none None is = find_right rs ls is ∙ none ∙ sym is ∙ sym (find_right ls rs none)
      by_right none (Some w) is = find_left rs ls w is ∙ sym is ∙ sym (find_right ls rs none)

      by_left : (o : Option X) → find ls ≡ o → find (rs ++ ls) ≡ find (ls ++ rs)
      by_left None is = by_right is (find rs) refl
      by_left (Some v) is = find_right rs ls (apart ls rs v once is) ∙ is ∙ sym (find_left ls rs v is)

  -- what a ring has is found
  pub find_in_ring : (places first : ℕ) (es : List (List ℕ × X)) → IsRing places first es → find (items_from first es) ≡ find es
  find_in_ring places first es ring =
      let whole = take-append-drop first es in
      find_turned (take first es) (drop first es) (subst (λ xs. IsDistinct bytes_eq (keys_of xs)) (sym whole) ring.once) ∙ ap find whole

  module _ (v : X) where
    abbrev put : List (List ℕ × X) → List (List ℕ × X)
    put es = insert_entry bytes_eq es m v

    put_right : (ls rs : List (List ℕ × X)) → find ls ≡ None → put (ls ++ rs) ≡ ls ++ put rs
    put_right [] rs none = refl
    put_right (a ∷ ls) rs none = (elim (bytes_eq m a.0) as (λ t. cond t (Some a.1) (find ls) ≡ None
        → (if t then (a.0, v) ∷ (ls ++ rs) else a ∷ put (ls ++ rs)) ≡ a ∷ (ls ++ put rs)) [
          | true ↦ λ is. absurd cc
          | false ↦ λ is. ap (λ rest. a ∷ rest) (put_right ls rs is)
        ]) none

    put_left : (ls rs : List (List ℕ × X)) (w : X) → find ls ≡ Some w → put (ls ++ rs) ≡ put ls ++ rs
    put_left [] rs w found = absurd cc
    put_left (a ∷ ls) rs w found = (elim (bytes_eq m a.0) as (λ t. cond t (Some a.1) (find ls) ≡ Some w
        → (if t then (a.0, v) ∷ (ls ++ rs) else a ∷ put (ls ++ rs)) ≡ (if t then (a.0, v) ∷ ls else a ∷ put ls) ++ rs) [
          | true ↦ λ is. refl
          | false ↦ λ is. ap (λ rest. a ∷ rest) (put_left ls rs w is)
        ]) found

    pub put_new : (es : List (List ℕ × X)) → find es ≡ None → put es ≡ es ++ (m, v) ∷ []
    put_new es none = ap put (sym (append-nil es)) ∙ put_right es [] none

    length_put : (es : List (List ℕ × X)) (w : X) → find es ≡ Some w → length (put es) ≡ length es
    length_put [] w found = absurd cc
    length_put (e ∷ es) w found = (elim (bytes_eq m e.0) as (λ t. cond t (Some e.1) (find es) ≡ Some w
        → length (if t then (e.0, v) ∷ es else e ∷ put es) ≡ length (e ∷ es)) [
          | true ↦ λ is. refl
          | false ↦ λ is. ap suc (length_put es w is)
        ]) found

    -- where the name is there, its place stays
    put_turned : (ls rs : List (List ℕ × X)) (w : X) (i : ℕ) → length ls ≡ i → IsDistinct bytes_eq (keys_of (ls ++ rs)) → find (ls ++ rs) ≡ Some w
        → items_from i (put (ls ++ rs)) ≡ put (rs ++ ls)
    put_turned ls rs w i len once found = by_left (find ls) refl
      where
        by_left : (o : Option X) → find ls ≡ o → items_from i (put (ls ++ rs)) ≡ put (rs ++ ls)
        by_left None is =
            ap (items_from i) (put_right ls rs is) ∙ from_part ls (put rs) i len ∙ sym (put_left rs ls w (sym (find_right ls rs is) ∙ found))
        by_left (Some u) is =
            ap (items_from i) (put_left ls rs u is) ∙ from_part (put ls) rs i (length_put ls u is ∙ len) ∙ sym (put_right rs ls (apart ls rs u once is))

    module _ (places first : ℕ) (es : List (List ℕ × X)) (ring : IsRing places first es) where
      starts : first ≤ length es
      starts = elim (cases_order (length es) places) [
        | inl same ↦ let begins = ring.begins in omega arith
        | inr differ ↦ elim differ [
          | inl less ↦ let none = ring.partly less in omega arith
          | inr more ↦ let within = ring.within in omega arith
        ]
      ]

      abbrev around : List (List ℕ × X)
      around = items_from first es

      length_around : length around ≡ length es
      length_around =
          let parts = length-append (drop first es) (take first es) in
          let whole = ap length (take-append-drop first es) in
          let turned = length-append (take first es) (drop first es) in
          omega arith

      new_around : find es ≡ None → put around ≡ around ++ (m, v) ∷ []
      new_around none = put_new around (find_in_ring places first es ring ∙ none)

      -- as long as there is room
      module _ (room : length (put es) ≤ places) where
        kept_by : (o : Option X) → find es ≡ o → items_from first (put es) ≡ latest places (put around)
        kept_by None none =
            let more = ap length (put_new es none) in
            let one = length-append es ((m, v) ∷ []) in
            let begin : first ≡ 0 = ring.partly (omega arith) in
            let same : put around ≡ put es =
            new_around none ∙ ap (λ i. items_from i es ++ (m, v) ∷ []) begin ∙ ap (λ xs. xs ++ (m, v) ∷ []) (append-nil es) ∙ sym (put_new es none) in
            ap (λ i. items_from i (put es)) begin ∙ append-nil (put es) ∙ sym same ∙ sym (latest_all places (put around) (let long = ap length same in omega arith))
        kept_by (Some w) found =
            let ls = take first es in
            let rs = drop first es in
            let whole = take-append-drop first es in
            let once = subst (λ xs. IsDistinct bytes_eq (keys_of xs)) (sym whole) ring.once in
            let there = ap find whole ∙ found in
            let long = length_put around w (find_in_ring places first es ring ∙ found) in
            let within = ring.within in
            let size = length_around in
            ap (λ xs. items_from first (put xs)) (sym whole)
            ∙ put_turned ls rs w first (length-take-le first es starts) once there
            ∙ sym (latest_all places (put around) (omega arith))

        pub put_kept : items_from first (put es) ≡ latest places (put around)
        put_kept = kept_by (find es) refl

      -- where there is none, the last takes the place of the first
      module _ (full : places < length (put es)) (d : List ℕ × X) where
        is_new : find es ≡ None
        is_new = by_found (find es) refl
          where
            by_found : (o : Option X) → find es ≡ o → find es ≡ None
            by_found None none = none
            by_found (Some w) found = let same = length_put es w found in let within = ring.within in absurd (omega arith)

        size : length es ≡ places
        size =
            let more = ap length (put_new es is_new) in
            let one = length-append es ((m, v) ∷ []) in
            let within = ring.within in
            omega arith

        begun : first < length es
        begun = let begins = ring.begins in let all = size in omega arith

        abbrev next : List (List ℕ × X)
        next = swap_remove (put es) first d

        abbrev upto : List (List ℕ × X)
        upto = take first es ++ (m, v) ∷ []

        next_is : next ≡ upto ++ drop (suc first) es
        next_is = ap (λ xs. swap_remove xs first d) (put_new es is_new) ∙ replaced es (m, v) d first begun

        length_upto : length upto ≡ suc first
        length_upto =
            let first_part = length-take-le first es starts in
            let one = length-append (take first es) ((m, v) ∷ []) in
            omega arith

        turned : items_from (suc first) next ≡ latest places (put around)
        turned =
            let new = new_around is_new in
            let one = length-append around ((m, v) ∷ []) in
            let all = size in
            let same = length_around in
            let over : length (around ++ (m, v) ∷ []) - places ≡ 1 = omega arith in
            ap (items_from (suc first)) next_is ∙ from_part upto (drop (suc first) es) (suc first) length_upto
            ∙ sym (drop_next es upto first begun) ∙ ap (drop 1) (sym (append_assoc (drop first es) (take first es) ((m, v) ∷ [])))
            ∙ ap (λ n. drop n (around ++ (m, v) ∷ [])) (sym over) ∙ ap (latest places) (sym new)

        length_next : length next ≡ places
        length_next =
            let is = ap length next_is in
            let parts = length-append upto (drop (suc first) es) in
            let one = length_upto in
            let rest = length-drop (suc first) es in
            let all = size in
            let less = begun in
            omega arith

        -- what begins with the next place, or with the first after the last one
        turned_by : (i : ℕ) → (i ≡ suc first) ⊎ ((i ≡ 0) × (suc first ≡ places)) → items_from i next ≡ latest places (put around)
        turned_by i (inl goes) = ap (λ n. items_from n next) goes ∙ turned
        turned_by i (inr back) =
            let all = length_next in
            ap (λ n. items_from n next) back.0 ∙ append-nil next ∙ sym (take_all places next (omega arith))
            ∙ ap (λ xs. xs ++ take places next) (sym (drop_all places next (omega arith))) ∙ ap (λ n. items_from n next) (sym back.1) ∙ turned

        pub put_over : items_from ((first + 1) % places) next ≡ latest places (put around)
        put_over = turned_by ((first + 1) % places) (elim (cases_order (first + 1) places) [
          | inl same ↦ inr (ap (λ n. n % places) same ∙ mod_self places, omega arith)
          | inr differ ↦ elim differ [
            | inl less ↦ inl (mod-eq_of_lt less ∙ omega arith)
            | inr more ↦ let begins = ring.begins in absurd (omega arith)
          ]
        ])
