use Rattle.std.proofs.Common.{◌∙◌, Option, subst}
use Rattle.std.proofs.lemmas.Result.{on_ok_weaker}
use Rattle.hlc_explain.specs.EventQuestion.{EventQuestion, plain_question, question_word}
use Rattle.hlc_csv.specs.Rows.{Fields}
use Rattle.hlc_log_audit.specs.Answers.{AnswersAt, TellsAnswer, found_in}
use Rattle.hlc_log_audit.proofs.event_answer.push_answer_at.Goals as goal

pub returns : goal.returns
returns g c =
    let files = c.args.files.now in
    let log = c.args.log.now in
    let question = plain_question c.in-Some.placed in
    on_ok_weaker c.push_about.result (λ tells. (
      tells.0,
      subst (λ (o : Option EventQuestion). AnswersAt files log o tells.0) c.in-Some.ensures.question
          (subst (λ (asked : Fields). TellsAnswer files log (question_word question) asked (found_in log question) tells.0)
          (c.deref.ensures.value ∙ c.in_ok-texts.ensures) tells.1),
      tells.2,
    )) c.push_about.ensures
