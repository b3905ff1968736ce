use Rattle.std.proofs.Common.{◌++◌}
use Rattle.std.proofs.lemmas.Result.{on_ok_weaker}
use Rattle.hlc_watched_log.specs.Skews.{skew_rows}
use Rattle.hlc_watched_log.specs.Summary.{count_rows, node_rows}
use Rattle.hlc_log_text.proofs.RowsAdded.{adds_joined, appends-from_none}
use Rattle.hlc_watched_log.proofs.summary.write_summary.Goals as goal

pub returns : goal.returns
returns g c =
    let nodes = node_rows c.args.names.now c.args.tallies.now in
    let counts = count_rows c.args.counts c.args.waiting c.args.forgotten in
    let skews = skew_rows c.args.names.now c.args.skews.now.entries in
    on_ok_weaker c.finish.result (λ sent.
    appends-from_none _ _ _ _ _ (adds_joined _ _ _ _ _ _ nodes (counts ++ skews) (rw c.new-rows.ensures at c.in_ok-push_nodes.ensures)
    (adds_joined _ _ _ _ _ _ counts skews c.in_ok-push_counts.ensures c.in_ok-push_skews.ensures)) sent)
    c.finish.ensures
