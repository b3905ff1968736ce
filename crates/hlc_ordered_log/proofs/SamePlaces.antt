-- Counts over places that change places.
use Rattle.std.proofs.Common.{◌≡◌, ◌≢◌, ◌∙◌, ℕ, zero, suc, ◌+◌, ◌<◌, Bool, cond, List, [], ◌∷◌, ◌++◌, length, get_or, map, arith, refl, subst, sym, ap}
use Rattle.std.specs.Prelude.{Contains, count_by}
use Rattle.std.specs.List.{flat_map, remove}
use Rattle.std.specs.List.Sorted.{IsPermutation}
use Rattle.std.proofs.lemmas.List.{append_assoc, ext_get_or, get_or-map, get_or_default, length-map, map-append}
use Rattle.std.proofs.lemmas.List.Sorted.{Contains-permutation, IsPermutation-append_comm, IsPermutation-append_left, IsPermutation-append_right, IsPermutation-cons, IsPermutation-refl, IsPermutation-remove, IsPermutation-sym, IsPermutation-trans, length_permutation, sum_by-IsPermutation}
use Rattle.std.proofs.lemmas.List.Concat.{flat_map-append}
use Rattle.std.proofs.lemmas.List.Sums.{fold-append, length-filter}
use Rattle.std.proofs.lemmas.Map.Made.{Contains-tail}
use Rattle.hlc_causality.specs.Places.{places_below}
use Rattle.hlc_causality.proofs.PlacesBelow.{length-places_below, place_at, same_places_pass}

-- a list whose elements differ has those of another one, in another order, if that is as long and has them all: what holds of no elements, and
-- of one more if it is taken out of the other list, holds of the two
module _ (P : List ℕ → List ℕ → Type 0) (start : P [] [])
    (step : (x : ℕ) (xs ys : List ℕ) (i : ℕ) → i < length ys → x ≡ get_or ys i x → P xs (remove ys i) → P (x ∷ xs) ys) where
  pub by_elements : (xs ys : List ℕ) → length xs ≡ length ys → ((j k : ℕ) → j < k → k < length xs → get_or xs j 0 ≢ get_or xs k 0)
      → ((x : ℕ) → Contains xs x → Contains ys x) → P xs ys
  by_elements [] [] size differ all = start
  by_elements [] (y ∷ ys) size differ all = absurd (omega arith)
  by_elements (x ∷ xs) ys size differ all =
      let at = all x (0, omega arith, refl) in
      let rest = remove ys at.0 in
      let moved : IsPermutation ys (x ∷ rest) = IsPermutation-remove ys at.0 x at.1 (sym at.2) in
      let count = length_permutation ys (x ∷ rest) moved in
      let others : (z : ℕ) → Contains xs z → Contains rest z = λ z has.
      Contains-tail x rest z
      (λ is. differ 0 (suc has.0) (omega arith) (omega (arith, has.1)) (is ∙ sym has.2 ∙ get_or_default xs has.0 z 0 has.1))
      (Contains-permutation ys (x ∷ rest) z moved (all z (suc has.0, omega (arith, has.1), has.2))) in
      step x xs ys at.0 at.1 (sym at.2)
      (by_elements xs rest (omega arith) (λ j k lt within. differ (suc j) (suc k) (omega arith) (omega arith)) others)

one_more : (x : ℕ) (xs ys : List ℕ) (i : ℕ) → i < length ys → x ≡ get_or ys i x → IsPermutation xs (remove ys i) → IsPermutation (x ∷ xs) ys
one_more x xs ys i lt is rest =
    IsPermutation-trans (x ∷ xs) (x ∷ remove ys i) ys (IsPermutation-cons x xs (remove ys i) rest)
    (IsPermutation-sym ys (x ∷ remove ys i) (IsPermutation-remove ys i x lt is))

-- so are what they give, one after another
flat_removed : {X : Type 0} (g : ℕ → List X) (ys : List ℕ) (i x : ℕ) → i < length ys → x ≡ get_or ys i x
    → IsPermutation (flat_map g ys) (g x ++ flat_map g (remove ys i))
flat_removed g [] i x lt is = absurd (omega arith)
flat_removed {X} g (y ∷ ys) zero x lt is =
    subst (λ (z : ℕ). IsPermutation (g y ++ flat_map g ys) (g z ++ flat_map g ys)) (sym is) (IsPermutation-refl (g y ++ flat_map g ys))
flat_removed {X} g (y ∷ ys) (suc i) x lt is =
    let rest = flat_map g (remove ys i) in
    let first : IsPermutation (g y ++ flat_map g ys) (g y ++ (g x ++ rest)) =
    IsPermutation-append_right (g y) (flat_map g ys) (g x ++ rest) (flat_removed g ys i x (omega arith) is) in
    let second : IsPermutation ((g y ++ g x) ++ rest) ((g x ++ g y) ++ rest) =
    IsPermutation-append_left rest (g y ++ g x) (g x ++ g y) (IsPermutation-append_comm (g y) (g x)) in
    let turned : IsPermutation (g y ++ (g x ++ rest)) (g x ++ (g y ++ rest)) =
    subst (λ (zs : List X). IsPermutation zs (g x ++ (g y ++ rest))) (append_assoc (g y) (g x) rest)
    (subst (IsPermutation ((g y ++ g x) ++ rest)) (append_assoc (g x) (g y) rest) second) in
    IsPermutation-trans (g y ++ flat_map g ys) (g y ++ (g x ++ rest)) (g x ++ (g y ++ rest)) first turned

flat_more : {X : Type 0} (g : ℕ → List X) (x : ℕ) (xs ys : List ℕ) (i : ℕ) → i < length ys → x ≡ get_or ys i x
    → IsPermutation (flat_map g xs) (flat_map g (remove ys i)) → IsPermutation (flat_map g (x ∷ xs)) (flat_map g ys)
flat_more g x xs ys i lt is rest =
    IsPermutation-trans (g x ++ flat_map g xs) (g x ++ flat_map g (remove ys i)) (flat_map g ys)
    (IsPermutation-append_right (g x) (flat_map g xs) (flat_map g (remove ys i)) rest)
    (IsPermutation-sym (flat_map g ys) (g x ++ flat_map g (remove ys i)) (flat_removed g ys i x lt is))

-- a map and another one back change the places below n
module _ (n : ℕ) (to back : ℕ → ℕ) (there : (k : ℕ) → k < n → to k < n) (back_here : (k : ℕ) → k < n → back (to k) ≡ k) where
  moved_at : (k : ℕ) → k < n → get_or (map to (places_below n)) k 0 ≡ to k
  moved_at k lt =
      let size = length-places_below n in
      get_or-map to (places_below n) k 0 0 (omega arith) ∙ ap to (place_at n k lt)

  places_moved_by : (P : List ℕ → List ℕ → Type 0) → P [] []
      → ((x : ℕ) (xs ys : List ℕ) (i : ℕ) → i < length ys → x ≡ get_or ys i x → P xs (remove ys i) → P (x ∷ xs) ys)
      → P (map to (places_below n)) (places_below n)
  places_moved_by P start step =
      let size = length-places_below n in
      let moved_size = length-map (places_below n) to in
      by_elements P start step (map to (places_below n)) (places_below n) moved_size
      (λ j k lt within same.
      let j_lt : j < n = omega arith in
      let k_lt : k < n = omega arith in
      let both : j ≡ k = sym (back_here j j_lt) ∙ ap back (sym (moved_at j j_lt) ∙ same ∙ moved_at k k_lt) ∙ back_here k k_lt in
      omega arith)
      (λ x has.
      let k_lt : has.0 < n = omega (arith, has.1) in
      let is : to has.0 ≡ x = sym (moved_at has.0 k_lt) ∙ get_or_default (map to (places_below n)) has.0 0 x has.1 ∙ has.2 in
      let bound = there has.0 k_lt in
      let x_lt : x < n = omega arith in
      (x, omega arith, get_or_default (places_below n) x x 0 (omega arith) ∙ place_at n x x_lt))

  places_moved : IsPermutation (map to (places_below n)) (places_below n)
  places_moved = places_moved_by IsPermutation (IsPermutation-refl []) one_more

  flat_places_moved : {X : Type 0} (g : ℕ → List X) → IsPermutation (flat_map g (map to (places_below n))) (flat_map g (places_below n))
  flat_places_moved {X} g =
      let none : List X = [] in
      places_moved_by (λ xs ys. IsPermutation (flat_map g xs) (flat_map g ys)) (IsPermutation-refl none) (flat_more g)

flat_mapped : {X : Type 0} (f g : ℕ → List X) (to : ℕ → ℕ) (n : ℕ) → ((k : ℕ) → k < n → g (to k) ≡ f k)
    → flat_map g (map to (places_below n)) ≡ flat_map f (places_below n)
flat_mapped f g to zero same = refl
flat_mapped {X} f g to (suc n) same =
    ap (flat_map g) (map-append to (places_below n) (n ∷ [])) ∙ flat_map-append g (map to (places_below n)) (to n ∷ [])
    ∙ ap (λ (before : List X). before ++ (g (to n) ++ [])) (flat_mapped f g to n (λ k lt. same k (omega arith)))
    ∙ ap (λ (here : List X). flat_map f (places_below n) ++ (here ++ [])) (same n (omega arith))
    ∙ sym (flat_map-append f (places_below n) (n ∷ []))

-- what places give, one after another, if they change places
pub flat_moved : {X : Type 0} (n : ℕ) (to back : ℕ → ℕ) → ((k : ℕ) → k < n → to k < n) → ((k : ℕ) → k < n → back (to k) ≡ k)
    → (f g : ℕ → List X) → ((k : ℕ) → k < n → g (to k) ≡ f k) → IsPermutation (flat_map f (places_below n)) (flat_map g (places_below n))
flat_moved {X} n to back there back_here f g same =
    subst (λ (rows : List X). IsPermutation rows (flat_map g (places_below n))) (flat_mapped f g to n same)
    (flat_places_moved n to back there back_here g)

-- tests over places
pub count_push : {X : Type 0} (p : X → Bool) (xs : List X) (x : X) → count_by p (xs ++ x ∷ []) ≡ count_by p xs + cond (p x) 1 0
count_push {X} p xs x = fold-append (λ (k : ℕ) (y : X). k + cond (p y) 1 0) 0 xs (x ∷ [])

count_mapped : {X : Type 0} (p : X → Bool) (f : ℕ → X) (n : ℕ) → count_by p (map f (places_below n)) ≡ count_by (λ (k : ℕ). p (f k)) (places_below n)
count_mapped p f zero = refl
count_mapped p f (suc n) =
    ap (count_by p) (map-append f (places_below n) (n ∷ [])) ∙ count_push p (map f (places_below n)) (f n)
    ∙ ap (λ (k : ℕ). k + cond (p (f n)) 1 0) (count_mapped p f n) ∙ sym (count_push (λ (k : ℕ). p (f k)) (places_below n) n)

pub count_same : (p q : ℕ → Bool) (n : ℕ) → ((k : ℕ) → k < n → p k ≡ q k) → count_by p (places_below n) ≡ count_by q (places_below n)
count_same p q n same =
    sym (length-filter p (places_below n)) ∙ ap (λ (xs : List ℕ). length xs) (same_places_pass p q n same) ∙ length-filter q (places_below n)

pub count_moved : (n : ℕ) (to back : ℕ → ℕ) → ((k : ℕ) → k < n → to k < n) → ((k : ℕ) → k < n → back (to k) ≡ k)
    → (p q : ℕ → Bool) → ((k : ℕ) → k < n → q (to k) ≡ p k) → count_by q (places_below n) ≡ count_by p (places_below n)
count_moved n to back there back_here p q same =
    sum_by-IsPermutation (λ (k : ℕ). cond (q k) 1 0) (map to (places_below n)) (places_below n) (places_moved n to back there back_here)
    ∙ count_mapped q to n ∙ count_same (λ (k : ℕ). q (to k)) p n same

-- and over lists, by their places
pub count_by_place : {X : Type 0} (p : X → Bool) (d : X) (xs : List X) → count_by p xs ≡ count_by (λ (k : ℕ). p (get_or xs k d)) (places_below (length xs))
count_by_place p d xs =
    let places = places_below (length xs) in
    let size = length-places_below (length xs) in
    ap (count_by p) (ext_get_or d xs (map (λ (k : ℕ). get_or xs k d) places) (sym (length-map places (λ (k : ℕ). get_or xs k d) ∙ size))
    (λ k lt. sym (get_or-map (λ (k : ℕ). get_or xs k d) places k 0 d (omega arith) ∙ ap (λ (j : ℕ). get_or xs j d) (place_at (length xs) k lt))))
    ∙ count_mapped p (λ (k : ℕ). get_or xs k d) (length xs)

pub count_list_moved : {X : Type 0} (p : X → Bool) (d : X) (n : ℕ) (to back : ℕ → ℕ) → ((k : ℕ) → k < n → to k < n)
    → ((k : ℕ) → k < n → back (to k) ≡ k) → (xs ys : List X) → length xs ≡ n → length ys ≡ n
    → ((k : ℕ) → k < n → p (get_or ys (to k) d) ≡ p (get_or xs k d)) → count_by p ys ≡ count_by p xs
count_list_moved p d n to back there back_here xs ys size other_size same =
    count_by_place p d ys
    ∙ ap (λ (m : ℕ). count_by (λ (k : ℕ). p (get_or ys k d)) (places_below m)) other_size
    ∙ count_moved n to back there back_here (λ (k : ℕ). p (get_or xs k d)) (λ (k : ℕ). p (get_or ys k d)) same
    ∙ ap (λ (m : ℕ). count_by (λ (k : ℕ). p (get_or xs k d)) (places_below m)) (sym size)
    ∙ sym (count_by_place p d xs)
