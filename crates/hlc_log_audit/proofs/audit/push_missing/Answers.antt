use Rattle.std.proofs.Common.{◌++◌, List, subst}
use Rattle.std.specs.Prelude.{OnOk, codes}
use Rattle.std.proofs.lemmas.Result.{on_ok_weaker}
use Rattle.hlc_csv.specs.Rows.{AddsRows, Fields}
use Rattle.hlc_log_audit.specs.Audit.{counted_row, skipped_row}
use Rattle.hlc_log_text.proofs.RowsAdded.{adds_joined}
use Rattle.hlc_log_audit.proofs.audit.push_missing.Goals as goal

pub returns : goal.returns
returns g c =
    let outside = counted_row (codes "outside") c.count_missing-missing.result.outside in
    let unread = counted_row (codes "unread") c.count_missing-missing.result.unread in
    let unstamped = counted_row (codes "unstamped") c.count_missing-missing.result.unstamped in
    let skipped = skipped_row c.args.files.now c.args.skipped in
    subst (λ (rows : List Fields).
    OnOk c.push_skipped.result
    (AddsRows g.W.Write.contents c.args.writer.now c.push_skipped.new.writer c.args.rows.now c.push_skipped.new.rows rows))
    (λ i. counted_row (codes "outside") (c.count_missing-missing.ensures.outside i)
    ++ (counted_row (codes "unread") (c.count_missing-missing.ensures.unread i)
    ++ (counted_row (codes "unstamped") (c.count_missing-missing.ensures.unstamped i) ++ skipped)))
    (on_ok_weaker c.push_skipped.result (λ last.
    adds_joined _ _ _ _ _ _ outside (unread ++ (unstamped ++ skipped)) c.in_ok-push_counted.ensures
    (adds_joined _ _ _ _ _ _ unread (unstamped ++ skipped) c.in_ok-push_counted-2.ensures
    (adds_joined _ _ _ _ _ _ unstamped skipped c.in_ok-push_counted-3.ensures last)))
    c.push_skipped.ensures)
