use Rattle.std.proofs.Common.{◌∙◌, [], ◌∷◌, ℕ, ap}
use Rattle.std.proofs.lemmas.Result.{IfOk-weaker}
use Rattle.hlc_stamp.specs.Ids.{places_of}
use Rattle.hlc_explain.specs.EventQuestion.{Check}
use Rattle.hlc_text.specs.Questions.{rows_about}
use Rattle.hlc_text.proofs.question_reply.check_reply.Goals as goal

pub returns : goal.returns
returns c =
    let events = places_of c.args.events.now in
    IfOk-weaker c.reply_about.result _ _
    (λ reply rows. rows ∙ ap (λ (event : ℕ). rows_about c.args.cluster.now (c.args.number.0 ∷ []) (Check event events)) c.event-event.ensures)
    c.reply_about.ensures
