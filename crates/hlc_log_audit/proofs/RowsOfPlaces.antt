-- Rows of things by their places.
use Rattle.std.proofs.Common.{◌≡◌, ◌∙◌, ℕ, zero, suc, ◌+◌, ◌<◌, List, [], ◌∷◌, ◌++◌, Option, add-one, ap, arith, refl, subst, sym}
use Rattle.std.specs.List.{flat_map}
use Rattle.std.proofs.lemmas.List.Concat.{flat_map-append}
use Rattle.hlc_causality.specs.Places.{places_below}
use Rattle.hlc_csv.specs.Rows.{AddsText, Fields, text_of}
use Rattle.hlc_log_text.proofs.RowsAdded.{adds_rows}

-- the rows of one place more are added
pub adds_place : (a b c : Option (List ℕ)) (old mid new : List ℕ) (rows : ℕ → List Fields) (n : ℕ)
    → AddsText a b old mid (text_of (flat_map rows (places_below n))) → AddsText b c mid new (text_of (rows n))
    → AddsText a c old new (text_of (flat_map rows (places_below (n + 1))))
adds_place a b c old mid new rows n h t =
    subst (λ (k : ℕ). AddsText a c old new (text_of (flat_map rows (places_below k)))) (sym (add-one n))
    (adds_rows a b c old mid new rows (places_below n) n h t)

-- rows depend on what stands at their places alone
pub flat_map-same : (rows other : ℕ → List Fields) (n : ℕ) → ((k : ℕ) → k < n → rows k ≡ other k)
    → flat_map rows (places_below n) ≡ flat_map other (places_below n)
flat_map-same rows other zero same = refl
flat_map-same rows other (suc n) same =
    flat_map-append rows (places_below n) (n ∷ [])
    ∙ ap (λ (before : List Fields). before ++ (rows n ++ [])) (flat_map-same rows other n (λ k lt. same k (omega arith)))
    ∙ ap (λ (here : List Fields). flat_map other (places_below n) ++ (here ++ [])) (same n (omega arith))
    ∙ sym (flat_map-append other (places_below n) (n ∷ []))
