use Rattle.std.proofs.Common.{◌++◌, map, sym}
use Rattle.std.proofs.lemmas.Result.{on_ok_weaker}
use Rattle.hlc_log_text.specs.Question.{plain_asked}
use Rattle.hlc_log_audit.proofs.AnswerFacts.{answers_join}
use Rattle.hlc_log_text.proofs.RowsAdded.{adds_joined}
use Rattle.hlc_log_audit.proofs.audit.push_all_answers.Goals as goal

pub returns : goal.returns
returns g c =
    let log = c.args.log.now in
    let first = c.in_ok-push_answers.ensures in
    on_ok_weaker c.push_answers-2.result (λ last. (
      first.0 ++ last.0,
      answers_join log.files log.nodes log.labels log.log log.full (map plain_asked log.questions) (map plain_asked c.args.asked.now) first.0 last.0
          (rw (sym c.questions.ensures) first.1) last.1,
      adds_joined _ _ _ _ _ _ first.0 last.0 first.2 last.2,
    )) c.push_answers-2.ensures
