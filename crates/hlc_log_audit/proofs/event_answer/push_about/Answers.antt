use Rattle.std.proofs.Common.{List, ℕ, subst}
use Rattle.std.proofs.lemmas.Result.{on_ok_weaker}
use Rattle.hlc_explain.specs.Answer.{Answer}
use Rattle.hlc_explain.specs.EventQuestion.{plain_question}
use Rattle.hlc_log_audit.specs.Answers.{TellsAnswer, found_in}
use Rattle.hlc_log_audit.proofs.event_answer.push_about.Goals as goal

pub returns : goal.returns
returns g c =
    let files = c.args.files.now in
    let log = c.args.log.now in
    let asked = c.args.asked.now in
    let word = c.question_word-word in
    let found = found_in log (plain_question c.args.question) in
    on_ok_weaker c.push_found.result (λ tells. (
      tells.0,
      subst (λ (w : List ℕ). TellsAnswer files log w asked found tells.0) word.ensures.word
          (subst (λ (a : Answer). TellsAnswer files log word.result.now asked a tells.0) c.in_ok-found.ensures.answer tells.1),
      tells.2,
    )) c.push_found.ensures
