use Rattle.hlc_log_text.specs.declared.file_mark.FileMark.{FileMark}
use Rattle.std.proofs.Common.{List, ℕ, rules, subst}
use Rattle.std.specs.Prelude.{OnOk}
use Rattle.hlc_csv.specs.Rows.{AddsRow, Fields}
use Rattle.hlc_ordered_log.specs.InOrder.{LogInOrder}
use Rattle.hlc_log_audit.specs.Report.{over_fields}
use Rattle.hlc_log_audit.proofs.overs.push_over.Goals as goal

pub returns : goal.returns
returns g c =
    let Adds = λ (row : Fields).
    OnOk c.push.result (AddsRow g.W.Write.contents c.args.writer.now c.push.new.writer c.args.rows.now c.push.new.self row) in
    subst (λ (nodes : List (List ℕ)). Adds (over_fields c.args.log.now.files nodes c.args.log.now.log c.args.node.0 c.args.over)) c.nodes.ensures.value
    (subst (λ (log : LogInOrder). Adds (over_fields c.args.log.now.files c.nodes.result.now log c.args.node.0 c.args.over)) c.ordered-ordered.ensures.value (subst (λ (files : List FileMark). Adds (over_fields files c.nodes.result.now c.ordered-ordered.result.now c.args.node.0 c.args.over)) c.files-files.ensures (search rules)))
