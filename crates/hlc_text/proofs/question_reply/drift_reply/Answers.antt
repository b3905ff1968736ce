use Rattle.std.proofs.Common.{◌≡◌, ◌≤◌, ◌∙◌, [], ◌∷◌, Err, ap, arith, inl, sym}
use Rattle.std.proofs.lemmas.Result.{IfOk-weaker}
use Rattle.hlc_arena.specs.History.{causality_of, stamps_of}
use Rattle.hlc_explain.specs.Findings.{node_drift}
use Rattle.hlc_verdict.specs.declared.audit_fault.AuditFault.{AuditFault}
use Rattle.hlc_verdict.specs.declared.audit_fault.AuditFault.TheVariants.{NoNode}
use Rattle.hlc_csv.specs.Rows.{Fields}
use Rattle.hlc_text.specs.Questions.{drift_row, if_node}
use Rattle.hlc_text.proofs.HistoryAnswers.{drift_row-found}
use Rattle.hlc_text.proofs.QuestionFacts.{if_node-missing, if_node-there, missing-row}
use Rattle.hlc_text.proofs.question_reply.drift_reply.Goals as goal

pub returns-in-Ok : goal.returns-in-Ok
returns-in-Ok c =
    let old = c.args.cluster.now in
    let events = old.history.events in
    let node = c.args.node.0 in
    let x = c.execution_of.result.now in
    let lent = c.execution_of.ensures in
    let row = drift_row node (node_drift (causality_of events) (stamps_of events) node) in
    let within : ¬ (old.history.nodes ≤ node) = λ beyond.
    let same = lent.nodes in
    let both = c.in-Ok.ensures.no_node.1 (omega arith) in
    cc in
    let is : drift_row node c.in-Ok.found ≡ row =
    drift_row-found x.events x.stamps node c.in-Ok.found (c.in-Ok.ensures.ticking_drift lent.rules)
    ∙ (λ i. drift_row node (node_drift (lent.events i) (lent.stamps i) node)) in
    IfOk-weaker c.drift_row.result _ _ (λ reply rows. rows ∙ (ap (λ (r : Fields). r ∷ []) is ∙ sym (if_node-there old node (row ∷ []) within))) c.drift_row.ensures

pub returns-in-Err : goal.returns-in-Err
returns-in-Err c =
    let old = c.args.cluster.now in
    let events = old.history.events in
    let node = c.args.node.0 in
    let rows = if_node old node (drift_row node (node_drift (causality_of events) (stamps_of events) node) ∷ []) in
    let same = c.execution_of.ensures.nodes in
    missing-row c.in-Err.fault NoNode rows c.missing.result
    (λ (is : c.in-Err.fault ≡ NoNode).
    let beyond = c.in-Err.ensures.no_node.0 (ap (λ (f : AuditFault). Err f) is) in
    if_node-missing old node _ (omega arith))
    (inl c.in-Err.ensures.no_other_fault) c.missing.ensures.row c.missing.ensures.memory
