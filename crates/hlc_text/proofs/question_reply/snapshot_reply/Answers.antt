use Rattle.std.proofs.Common.{◌≡◌, ◌≤◌, Err, ap, rules, subst}
use Rattle.hlc_arena.specs.History.{History}
use Rattle.hlc_verdict.specs.declared.audit_fault.AuditFault.{AuditFault}
use Rattle.hlc_verdict.specs.declared.audit_fault.AuditFault.TheVariants.{NoNode}
use Rattle.hlc_text.specs.Questions.{if_node, rows_of_snapshot}
use Rattle.hlc_text.proofs.QuestionFacts.{if_node-missing, missing-row}
use Rattle.hlc_text.proofs.question_reply.snapshot_reply.Goals as goal

pub returns-in-Ok : goal.returns-in-Ok
returns-in-Ok c = search rules

pub returns-in-Err : goal.returns-in-Err
returns-in-Err c =
    let old = c.args.cluster.now in
    let node = c.args.node.0 in
    let rows = if_node old node (rows_of_snapshot old.history.events c.args.stamp node) in
    missing-row c.in-Err.fault NoNode rows c.missing.result
    (λ (is : c.in-Err.fault ≡ NoNode).
    let beyond = c.in-Err.ensures.no_node.0 (ap (λ (f : AuditFault). Err f) is) in
    if_node-missing old node _ (subst (λ (h : History). h.nodes ≤ node) c.history-history.ensures.history beyond))
    c.in-Err.ensures.no_other_fault c.missing.ensures.row c.missing.ensures.memory
