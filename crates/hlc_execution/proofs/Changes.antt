-- A list with one element changed.
use Rattle.std.proofs.Common.{◌≡◌, ℕ, zero, suc, ◌<◌, List, [], ◌∷◌, length, map, get_or, arith, refl, sym, ap, ◌∙◌}
use Rattle.std.specs.Prelude.{slice_set}
use Rattle.std.proofs.lemmas.List.{map-set}
use Rattle.hlc_execution.specs.SlotChanges.{with_changed}

pub set_changed : {X : Type 0} (xs : List X) (i : ℕ) (d : X) (change : X → X) → i < length xs
    → slice_set xs i (change (get_or xs i d)) ≡ with_changed xs i change
set_changed [] i d change lt = absurd (omega arith)
set_changed (x ∷ xs) zero d change lt = refl
set_changed (x ∷ xs) (suc i) d change lt = ap (λ ys. x ∷ ys) (set_changed xs i d change (omega arith))

-- the same by what was read at the place
pub changed_at : {X : Type 0} (xs : List X) (i : ℕ) (x : X) (change : X → X) → i < length xs → x ≡ get_or xs i x
    → slice_set xs i (change x) ≡ with_changed xs i change
changed_at {X} xs i x change lt is = ap (λ (y : X). slice_set xs i (change y)) is ∙ set_changed xs i x change lt

module _ {X Y : Type 0} (view : X → Y) (change : X → X) where
  pub map-changed_unseen : ((x : X) → view (change x) ≡ view x) → (xs : List X) (i : ℕ) → map view (with_changed xs i change) ≡ map view xs
  map-changed_unseen same [] i = refl
  map-changed_unseen same (x ∷ xs) zero = ap (λ y. y ∷ map view xs) (same x)
  map-changed_unseen same (x ∷ xs) (suc i) = ap (λ ys. view x ∷ ys) (map-changed_unseen same xs i)

  pub map-changed_to : (y : Y) → ((x : X) → view (change x) ≡ y)
      → (xs : List X) (i : ℕ) → map view (with_changed xs i change) ≡ slice_set (map view xs) i y
  map-changed_to y all [] i = refl
  map-changed_to y all (x ∷ xs) zero = ap (λ z. z ∷ map view xs) (all x)
  map-changed_to y all (x ∷ xs) (suc i) = ap (λ zs. view x ∷ zs) (map-changed_to y all xs i)

  -- the same if only the change of what was read at the place is known
  pub map-changed_at : (xs : List X) (i : ℕ) (x : X) (y : Y) → i < length xs → x ≡ get_or xs i x → view (change x) ≡ y
      → map view (with_changed xs i change) ≡ slice_set (map view xs) i y
  map-changed_at xs i x y lt is new =
      ap (map view) (sym (changed_at xs i x change lt is))
      ∙ map-set view xs i (change x)
      ∙ ap (slice_set (map view xs) i) new

pub length-changed : {X : Type 0} (xs : List X) (i : ℕ) (change : X → X) → length (with_changed xs i change) ≡ length xs
length-changed [] i change = refl
length-changed (x ∷ xs) zero change = refl
length-changed (x ∷ xs) (suc i) change = ap suc (length-changed xs i change)
