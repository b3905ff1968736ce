use Rattle.std.proofs.Common.{ap, List, ℕ, rules, sym, subst}
use Rattle.std.specs.Prelude.{position}
use Rattle.std.specs.Str.{bytes_eq}
use Rattle.std.proofs.lemmas.Result.{on_ok_weaker}
use Rattle.hlc_ordered_log.specs.InOrder.{LogInOrder}
use Rattle.hlc_log_text.specs.Question.{plain_asked}
use Rattle.hlc_log_text.specs.declared.file_mark.FileMark.{FileMark}
use Rattle.hlc_log_text.specs.declared.location.Location.{Location}
use Rattle.hlc_log_text.specs.declared.question.LogQuestion.{LogQuestion}
use Rattle.hlc_log_audit.specs.Answers.{AnswersAt, AnswersCheck, IsAnswer, drift_row, question_at}
use Rattle.hlc_log_audit.proofs.answer.push_tallied.Goals as goal

pub returns-in-Explain : goal.returns-in-Explain
returns-in-Explain g c =
    let log = c.args.log.now in
    let files = c.files-files.result.now in
    let ordered = c.ordered-ordered.result.now in
    rw (sym c.ordered-ordered.ensures.value) (rw (sym c.files-files.ensures) (on_ok_weaker c.push_answer_at.result (λ tells. (
      tells.0,
      subst (λ (q : LogQuestion). AnswersAt files ordered (question_at files ordered (plain_asked q)) tells.0
          → IsAnswer files log.nodes log.labels ordered log.full (plain_asked q) tells.0) (sym c.in-Explain.is) (λ h. h) tells.1,
      tells.2,
    )) c.push_answer_at.ensures))

pub returns-in-Relation : goal.returns-in-Relation
returns-in-Relation g c =
    let log = c.args.log.now in
    let files = c.files-files.result.now in
    let ordered = c.ordered-ordered.result.now in
    rw (sym c.ordered-ordered.ensures.value) (rw (sym c.files-files.ensures) (on_ok_weaker c.push_answer_at-in-Relation.result (λ tells. (
      tells.0,
      subst (λ (q : LogQuestion). AnswersAt files ordered (question_at files ordered (plain_asked q)) tells.0
          → IsAnswer files log.nodes log.labels ordered log.full (plain_asked q) tells.0) (sym c.in-Relation.is) (λ h. h) tells.1,
      tells.2,
    )) c.push_answer_at-in-Relation.ensures))

pub returns-in-Influenced : goal.returns-in-Influenced
returns-in-Influenced g c =
    let log = c.args.log.now in
    let files = c.files-files.result.now in
    let ordered = c.ordered-ordered.result.now in
    rw (sym c.ordered-ordered.ensures.value) (rw (sym c.files-files.ensures) (on_ok_weaker c.push_answer_at-in-Influenced.result (λ tells. (
      tells.0,
      subst (λ (q : LogQuestion). AnswersAt files ordered (question_at files ordered (plain_asked q)) tells.0
          → IsAnswer files log.nodes log.labels ordered log.full (plain_asked q) tells.0) (sym c.in-Influenced.is) (λ h. h) tells.1,
      tells.2,
    )) c.push_answer_at-in-Influenced.ensures))

pub returns-in-Check : goal.returns-in-Check
returns-in-Check g c =
    let log = c.args.log.now in
    let files = c.files-files.result.now in
    let ordered = c.ordered-ordered.result.now in
    let event = c.in-Check.event in
    let chain = c.in-Check.chain.items in
    rw c.in-Check.is (on_ok_weaker c.push_check.result (λ tells. (
      tells.0,
      subst (λ (marks : List FileMark). AnswersCheck marks log.log event chain tells.0) c.files-files.ensures
          (subst (λ (x : LogInOrder). AnswersCheck files x event chain tells.0) c.ordered-ordered.ensures.value
          (subst (λ (list : List Location). AnswersCheck files ordered event list tells.0) c.deref.ensures.value tells.1)),
      tells.2,
    )) c.push_check.ensures)

pub returns-in-Claimed : goal.returns-in-Claimed
returns-in-Claimed g c =
    rw c.in-Claimed.is (rw (sym c.ordered-ordered.ensures.value) (rw (sym c.files-files.ensures) (search rules)))

pub returns-in-Drift : goal.returns-in-Drift
returns-in-Drift g c =
    let row = λ (name : List ℕ). drift_row c.args.log.now.files c.args.log.now.log name (position (bytes_eq name) c.args.log.now.nodes) in
    rw c.in-Drift.is
    (on_ok_weaker c.push_drift.result (λ adds. (row c.deref-in-Drift.result.now, ap row c.deref-in-Drift.ensures, adds)) c.push_drift.ensures)

pub returns-in-Why : goal.returns-in-Why
returns-in-Why g c =
    let log = c.args.log.now in
    let files = c.files-files.result.now in
    let ordered = c.ordered-ordered.result.now in
    rw (sym c.ordered-ordered.ensures.value) (rw (sym c.files-files.ensures) (on_ok_weaker c.push_answer_at-in-Why.result (λ tells. (
      tells.0,
      subst (λ (q : LogQuestion). AnswersAt files ordered (question_at files ordered (plain_asked q)) tells.0
          → IsAnswer files log.nodes log.labels ordered log.full (plain_asked q) tells.0) (sym c.in-Why.is) (λ h. h) tells.1,
      tells.2,
    )) c.push_answer_at-in-Why.ensures))

pub returns-in-Tainted : goal.returns-in-Tainted
returns-in-Tainted g c =
    let log = c.args.log.now in
    let files = c.files-files.result.now in
    let ordered = c.ordered-ordered.result.now in
    rw (sym c.ordered-ordered.ensures.value) (rw (sym c.files-files.ensures) (on_ok_weaker c.push_answer_at-in-Tainted.result (λ tells. (
      tells.0,
      subst (λ (q : LogQuestion). AnswersAt files ordered (question_at files ordered (plain_asked q)) tells.0
          → IsAnswer files log.nodes log.labels ordered log.full (plain_asked q) tells.0) (sym c.in-Tainted.is) (λ h. h) tells.1,
      tells.2,
    )) c.push_answer_at-in-Tainted.ensures))
