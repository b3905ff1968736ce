-- Cells that are added one after the other.
use Rattle.std.proofs.Common.{◌≡◌, ◌∙◌, ℕ, suc, ◌+◌, List, [], ◌∷◌, ◌++◌, ap, append_assoc, append-nil, arith, flat_map, map, refl, sym}
use Rattle.hlc_causality.specs.Places.{places_below}
use Rattle.std.proofs.lemmas.List.Concat.{flat_map-append}
use Rattle.hlc_figures.specs.Row.{Cell}
use Rattle.hlc_svg.proofs.Added.{then_added}

module _ {X Y : Type 0} (text : Y → List ℕ) (f : X → Y) where
  pub flat_map-map : (xs : List X) → flat_map (λ x. text (f x)) xs ≡ flat_map text (map f xs)
  flat_map-map [] = refl
  flat_map-map (x ∷ xs) = ap (λ (t : List ℕ). text (f x) ++ t) (flat_map-map xs)

-- what cell after cell adds
pub cells_added :
    (piece : ℕ → List ℕ) (n : ℕ) (old mid new : List ℕ) → mid ≡ old ++ flat_map piece (places_below n) → new ≡ mid ++ piece n →
    new ≡ old ++ flat_map piece (places_below (n + 1))
cells_added piece n old mid new h e =
    let next : suc n ≡ n + 1 = omega arith in
    let before = flat_map piece (places_below n) in
    let one : flat_map piece (n ∷ []) ≡ piece n = append-nil (piece n) in
    e ∙ ap (λ (t : List ℕ). t ++ piece n) h ∙ append_assoc old before (piece n)
    ∙ ap (λ (t : List ℕ). old ++ (before ++ t)) (sym one)
    ∙ ap (λ (t : List ℕ). old ++ t) (sym (flat_map-append piece (places_below n) (n ∷ [])))
    ∙ ap (λ (m : ℕ). old ++ flat_map piece (places_below m)) next

-- and a text after them
pub cells_ended :
    (piece : Cell → List ℕ) (cell : ℕ → Cell) (n all : ℕ) (old mid new last : List ℕ) → n ≡ all →
    mid ≡ old ++ flat_map (λ k. piece (cell k)) (places_below n) →
    new ≡ mid ++ last → new ≡ old ++ (flat_map piece (map cell (places_below all)) ++ last)
cells_ended piece cell n all old mid new last same h e =
    let made = ap (λ (m : ℕ). flat_map (λ k. piece (cell k)) (places_below m)) same ∙ flat_map-map piece cell (places_below all) in
    then_added old mid new (flat_map piece (map cell (places_below all))) last (h ∙ ap (λ (t : List ℕ). old ++ t) made) e
