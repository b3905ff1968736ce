-- Rows that are added one after another.
use Rattle.std.proofs.Common.{◌≡◌, ◌∙◌, ℕ, ◌+◌, List, [], ◌∷◌, ◌++◌, Option, Some, None, Bor, add-one, ap, map, refl}
use Rattle.std.specs.Prelude.{decimal, option_map}
use Rattle.std.proofs.lemmas.List.{map-append}
use Rattle.std.specs.Io.KnownBytes.{Appends, append_known}
use Rattle.hlc_causality.specs.Places.{places_below}
use Rattle.hlc_explain.specs.Labelled.{and_label}
use Rattle.hlc_csv.specs.Rows.{AddsText, Fields, number_row, text_of, text_of_row}
use Rattle.hlc_csv.proofs.RowFacts.{adds_text-more, text_of-append, text_of-one}

-- a row of a word and numbers, and of a last word if there is one, is labelled so
pub number_row-labelled : (word : List ℕ) (numbers : List ℕ) (label : Option (Bor (List ℕ)))
    → number_row word numbers label ≡ and_label (word ∷ map decimal numbers) (option_map (λ label. label.now) label)
number_row-labelled word numbers None = refl
number_row-labelled word numbers (Some label) = refl

-- the rows of the first n places went to the writer, or wait
abbrev pub HasWritten : (ℕ → Fields) → ℕ → (before now : Option (List ℕ)) → List ℕ → Type 0
HasWritten row n before now waiting = Appends before (append_known now waiting) (text_of (map row (places_below n)))

-- and so does the row of one place more
pub has_written-more : (row : ℕ → Fields) (n : ℕ) (before now then : Option (List ℕ)) (old new : List ℕ)
    → HasWritten row n before now old → AddsText now then old new (text_of_row (row n)) → HasWritten row (n + 1) before then new
has_written-more row n before now then old new h more =
    let rows : map row (places_below (n + 1)) ≡ map row (places_below n) ++ row n ∷ [] =
    ap (λ (k : ℕ). map row (places_below k)) (add-one n) ∙ map-append row (places_below n) (n ∷ []) in
    let text : text_of (map row (places_below (n + 1))) ≡ text_of (map row (places_below n)) ++ text_of_row (row n) =
    ap text_of rows ∙ text_of-append _ _ ∙ ap (λ (t : List ℕ). text_of (map row (places_below n)) ++ t) (text_of-one (row n)) in
    rw text (adds_text-more before now then old new (text_of (map row (places_below n))) _ h more)
