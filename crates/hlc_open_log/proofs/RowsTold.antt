-- Rows of a list's items, added one after another.
use Rattle.std.proofs.Common.{◌≡◌, ◌∙◌, ◌<◌, ◌+◌, ◌++◌, ℕ, List, [], ◌∷◌, Option, add-one, ap, get_or, length, map, subst, sym, take}
use Rattle.std.proofs.lemmas.List.{map-append}
use Rattle.std.proofs.Math.Seq.{take-suc}
use Rattle.hlc_csv.specs.Rows.{AddsText, Fields, text_of, text_of_row}
use Rattle.hlc_csv.proofs.RowFacts.{adds_text-joined, text_of-append, text_of-one}

-- the row of one item more
pub row_more : {X : Type 0} (a b c : Option (List ℕ)) (old mid new : List ℕ) (row : X → Fields) (xs : List X) (n : ℕ) (x : X) → n < length xs
    → x ≡ get_or xs n x → AddsText a b old mid (text_of (map row (take n xs))) → AddsText b c mid new (text_of_row (row x))
    → AddsText a c old new (text_of (map row (take (n + 1) xs)))
row_more a b c old mid new row xs n x within is before here =
    let rows : text_of (map row (take (n + 1) xs)) ≡ text_of (map row (take n xs)) ++ text_of_row (row x) =
    ap (λ (k : ℕ). text_of (map row (take k xs))) (add-one n) ∙ ap (λ (ys : List _). text_of (map row ys)) (take-suc xs n x within)
    ∙ ap text_of (map-append row (take n xs) (get_or xs n x ∷ [])) ∙ text_of-append (map row (take n xs)) (row (get_or xs n x) ∷ [])
    ∙ ap (λ (text : List ℕ). text_of (map row (take n xs)) ++ text) (text_of-one (row (get_or xs n x)) ∙ ap (λ y. text_of_row (row y)) (sym is)) in
    subst (AddsText a c old new) (sym rows) (adds_text-joined a b c old mid new (text_of (map row (take n xs))) (text_of_row (row x)) before here)
