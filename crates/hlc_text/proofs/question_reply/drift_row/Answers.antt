use Rattle.std.proofs.Common.{◌∙◌, [], ◌∷◌}
use Rattle.std.specs.Prelude.{codes}
use Rattle.std.proofs.lemmas.Result.{IfOk-weaker}
use Rattle.hlc_text.specs.Questions.{told_row}
use Rattle.hlc_text.proofs.question_reply.drift_row.Goals as goal

pub returns : goal.returns
returns c =
    IfOk-weaker c.answer_row.result _ _ (λ reply rows. rows ∙ (λ i. told_row (codes "drift") (c.from-number.ensures i ∷ []) (c.in_ok-found.ensures i) ∷ []))
    c.answer_row.ensures
