use Rattle.std.proofs.Common.{◌∙◌, [], ◌∷◌, List, ℕ, ap}
use Rattle.hlc_stamp.specs.Ids.{places_of}
use Rattle.hlc_csv.specs.Rows.{Fields, number_row}
use Rattle.hlc_text.proofs.AnswerRows.{answer_numbers}
use Rattle.hlc_text.proofs.question_reply.answer_row.Goals as goal

pub returns : goal.returns
returns c =
    let found = c.args.found.now in
    let word = c.args.word.now in
    ap (λ (numbers : List ℕ). number_row word numbers found.word ∷ []) c.in_ok-numbers.ensures
    ∙ ap (λ (row : Fields). row ∷ []) (answer_numbers word c.args.asked.now found.numbers.items (places_of found.events.items) found.is_set found.word)
