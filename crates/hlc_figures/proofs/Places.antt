-- Places that are drawn, one after the other.
use Rattle.std.proofs.Common.{◌≡◌, ◌∙◌, ℕ, suc, ◌+◌, ◌-◌, ◌≤◌, List, [], ◌∷◌, ◌++◌, max, arith, ap, refl, sym}
use Rattle.hlc_figures.specs.Columns.{greatest_number, places_from}

-- one more place
pub places_from-more :
    (first place : ℕ) → first ≤ place → places_from first (place + 1 - first) ≡ places_from first (place - first) ++ place ∷ []
places_from-more first place le =
    let count : place + 1 - first ≡ suc (place - first) = omega arith in
    let last : first + (place - first) ≡ place = omega arith in
    ap (places_from first) count ∙ ap (λ (e : ℕ). places_from first (place - first) ++ e ∷ []) last

greatest-push :
    (number : ℕ → ℕ) (places : List ℕ) (e : ℕ) →
    greatest_number number (places ++ e ∷ []) ≡ max (number e) (greatest_number number places)
greatest-push number [] e = refl
greatest-push number (d ∷ places) e =
    let a : ℕ = number d in
    let b : ℕ = number e in
    let c : ℕ = greatest_number number places in
    let swapped : max a (max b c) ≡ max b (max a c) = omega arith in
    ap (max (number d)) (greatest-push number places e) ∙ swapped

-- the greatest number, with one more place
pub greatest-more :
    (number : ℕ → ℕ) (first place old value new : ℕ) → first ≤ place →
    old ≡ greatest_number number (places_from first (place - first)) → value ≡ number place →
    new ≡ max value old → new ≡ greatest_number number (places_from first (place + 1 - first))
greatest-more number first place old value new le before is more =
    let push = greatest-push number (places_from first (place - first)) place in
    let places = ap (greatest_number number) (places_from-more first place le) in
    more ∙ ap (λ (v : ℕ). max v old) is ∙ ap (max (number place)) before ∙ sym push ∙ sym places
