use Rattle.std.proofs.Common.{◌≡◌, ◌∙◌, ◌<◌, true, false, ℕ, Err, List, ap, length, refl, replicate, subst, sym}
use Rattle.std.specs.Prelude.{All}
use Rattle.std.proofs.lemmas.List.Elements.{All-replicate}
use Rattle.hlc_causality.specs.Causality.{Skeleton}
use Rattle.hlc_verdict.specs.declared.audit_fault.AuditFault.{AuditFault}
use Rattle.hlc_explain.specs.Answer.{Answer, answer_of}
use Rattle.hlc_explain.specs.EventQuestion.{can_be_asked, plain_question}
use Rattle.hlc_explain.proofs.Found.{answer_within}
use Rattle.hlc_ordered_log.specs.InOrder.{clocks_of, skeleton_of}
use Rattle.hlc_ordered_log.proofs.EventsInOrder.{length-clocks_of, length-skeleton_of}
use Rattle.hlc_log_audit.specs.Answers.{found_in}
use Rattle.hlc_log_audit.proofs.event_answer.answer_at.Goals as goal

pub answer_to-requires-clause-clear : goal.answer_to-requires-clause-clear
answer_to-requires-clause-clear c =
    let ends : c.in_ok-ends.ends.items ≡ replicate c.nodes.result 0 = c.in_ok-ends.ensures.items_if_clones_equal (λ y h. h) in
    subst (All (λ (end : ℕ). end ≡ 0)) (sym (c.as_mut_slice.ensures.value ∙ ends)) (All-replicate (λ (end : ℕ). end ≡ 0) c.nodes.result 0 refl)

pub returns-in-Ok-clause-answer : goal.returns-in-Ok-clause-answer
returns-in-Ok-clause-answer c =
    let lent = c.execution-execution.ensures in
    c.in-Ok.ensures.answer ∙ (λ i. answer_of (lent.events i) (lent.clocks i) (lent.stamps i) (plain_question c.args.question))

pub returns-in-Ok-clause-events : goal.returns-in-Ok-clause-events
returns-in-Ok-clause-events c =
    let log = c.args.log.now in
    let question = plain_question c.args.question in
    let size = length-skeleton_of log c.requires.ordered in
    let there : can_be_asked (length (skeleton_of log)) question ≡ true = ap (λ (n : ℕ). can_be_asked n question) size ∙ c.requires.exists in
    let within = answer_within (skeleton_of log) (clocks_of log) log.least question (length-clocks_of log) there in
    subst (λ (events : List ℕ). All (λ (k : ℕ). k < length log.events) events) (sym (ap (λ (a : Answer). a.events) (returns-in-Ok-clause-answer c)))
    (subst (λ (n : ℕ). All (λ (k : ℕ). k < n) ((found_in log question).events)) size within)

pub unreachable-requires : goal.unreachable-requires
unreachable-requires c =
    let question = plain_question c.args.question in
    let size =
    ap (λ (s : Skeleton). length s) c.execution-execution.ensures.events ∙ length-skeleton_of c.args.log.now c.requires.ordered in
    let is = c.in-Err-NoEvent.is ∙ ap (λ (f : AuditFault). Err f) c.in-Err-NoEvent.field-0-is in
    let lacks = c.answer_to.ensures.no_event.0 is in
    let both : true ≡ false = sym c.requires.exists ∙ ap (λ (n : ℕ). can_be_asked n question) (sym size) ∙ lacks in
    cc
