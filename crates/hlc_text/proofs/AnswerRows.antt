-- The rows that tell answers, as numbers.
use Rattle.std.proofs.Common.{◌≡◌, ◌∙◌, List, [], ◌∷◌, ◌++◌, ℕ, Option, Some, None, Bor, ap, map, sym}
use Rattle.std.specs.Prelude.{Bool, decimal, option_map}
use Rattle.std.proofs.lemmas.List.{append-nil, map-append}
use Rattle.hlc_csv.specs.Rows.{Fields, number_row}
use Rattle.hlc_text.specs.Questions.{told_row}

decimals : (asked numbers events : List ℕ)
    → map decimal ((asked ++ numbers) ++ events) ≡ (map decimal asked ++ map decimal numbers) ++ map decimal events
decimals asked numbers events =
    map-append decimal (asked ++ numbers) events ∙ ap (λ (fields : Fields). fields ++ map decimal events) (map-append decimal asked numbers)

-- the row of a word and of these numbers tells the answer that has these
pub answer_numbers : (word asked numbers events : List ℕ) (is_set : Bool) (last : Option (Bor (List ℕ)))
    → number_row word ((asked ++ numbers) ++ events) last
    ≡ told_row word asked (record { numbers = numbers; events = events; is_set = is_set; word = option_map (λ word. word.now) last })
answer_numbers word asked numbers events is_set None =
    ap (λ (fields : Fields). word ∷ fields) (decimals asked numbers events ∙ sym (append-nil _))
answer_numbers word asked numbers events is_set (Some last) =
    ap (λ (fields : Fields). word ∷ (fields ++ last.now ∷ [])) (decimals asked numbers events)
