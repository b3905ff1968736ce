use Rattle.std.proofs.Common.{◌≡◌, ◌∙◌, List, ℕ, ap}
use Rattle.std.proofs.lemmas.Result.{IfOk-weaker}
use Rattle.hlc_stamp.specs.Ids.{places_of}
use Rattle.hlc_stamp.specs.declared.id.EventId.{EventId}
use Rattle.hlc_explain.specs.EventQuestion.{events_asked, plain_question}
use Rattle.hlc_text.specs.Questions.{rows_about}
use Rattle.hlc_text.proofs.question_reply.events_reply.Goals as goal

pub returns : goal.returns
returns c =
    let question = plain_question c.args.question in
    let asked : c.deref-2.result.now ≡ events_asked question =
    c.deref-2.ensures.value ∙ c.in_ok-asked.ensures ∙ ap (λ (ids : List EventId). places_of ids) c.deref.ensures.value ∙ c.in_ok-events.ensures in
    IfOk-weaker c.reply_about.result _ _ (λ reply rows. rows ∙ ap (λ (numbers : List ℕ). rows_about c.args.cluster.now numbers question) asked)
    c.reply_about.ensures
