use Rattle.std.proofs.Common.{◌≡◌, ◌∙◌, Bool, true, false, inl, inr, [], ◌∷◌, ℕ, Err, ap, length, sym}
use Rattle.std.proofs.lemmas.Bool.{cases_Bool}
use Rattle.std.proofs.lemmas.Result.{IfOk-weaker}
use Rattle.hlc_causality.specs.Causality.{Skeleton}
use Rattle.hlc_causality.specs.ClockEvents.{ClockEvents, ticking}
use Rattle.hlc_causality.proofs.TickingReceives.{all_tick}
use Rattle.hlc_arena.proofs.Histories.{length_skeleton}
use Rattle.hlc_verdict.specs.declared.audit_fault.AuditFault.{AuditFault}
use Rattle.hlc_verdict.specs.declared.audit_fault.AuditFault.TheVariants.{NoEvent}
use Rattle.hlc_explain.specs.Answer.{answer_of, plain_answer}
use Rattle.hlc_explain.specs.EventQuestion.{can_be_asked, plain_question}
use Rattle.hlc_text.specs.Questions.{found_in, rows_about, told_row}
use Rattle.hlc_text.proofs.QuestionFacts.{missing-row, rows_about-missing, rows_about-there}
use Rattle.hlc_text.proofs.question_reply.reply_about.Goals as goal

pub returns-in-Ok : goal.returns-in-Ok
returns-in-Ok c =
    let old = c.args.cluster.now in
    let events = old.history.events in
    let x = c.execution_of-execution.result.now in
    let lent = c.execution_of-execution.ensures in
    let asked = c.args.asked.now in
    let question = plain_question c.args.question in
    let size : length x.events ≡ length events = ap (λ (s : Skeleton). length s) lent.events ∙ length_skeleton events in
    let found : plain_answer c.in-Ok.found ≡ found_in events question =
    c.in-Ok.ensures.answer ∙ ap (λ (t : ClockEvents). answer_of x.events t x.stamps question) (all_tick x.rules x.events lent.rules)
    ∙ (λ i. answer_of (lent.events i) (ticking (lent.events i)) (lent.stamps i) question) in
    let there : can_be_asked (length events) question ≡ true = elim (cases_Bool (can_be_asked (length events) question)) [
      | inl told ↦ told
      | inr missing ↦ let both = c.in-Ok.ensures.no_event.1 (ap (λ (n : ℕ). can_be_asked n question) size ∙ missing) in absurd (cc both)
    ] in
    IfOk-weaker c.answer_row.result _ _
    (λ reply rows. rows ∙ (λ i. told_row (c.question_word.ensures.word i) asked (found i) ∷ []) ∙ sym (rows_about-there old asked question there))
    c.answer_row.ensures

pub returns-in-Err : goal.returns-in-Err
returns-in-Err c =
    let old = c.args.cluster.now in
    let events = old.history.events in
    let asked = c.args.asked.now in
    let question = plain_question c.args.question in
    let size = ap (λ (s : Skeleton). length s) c.execution_of-execution.ensures.events ∙ length_skeleton events in
    missing-row c.in-Err.fault NoEvent (rows_about old asked question) c.missing.result
    (λ (is : c.in-Err.fault ≡ NoEvent).
    let lacks = c.in-Err.ensures.no_event.0 (ap (λ (f : AuditFault). Err f) is) in
    rows_about-missing old asked question (ap (λ (n : ℕ). can_be_asked n question) (sym size) ∙ lacks))
    c.in-Err.ensures.no_other_fault c.missing.ensures.row c.missing.ensures.memory
