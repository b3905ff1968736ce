use Rattle.std.proofs.Common.{◌≡◌, ℕ, arith, length, map, subst}
use Rattle.hlc_causality.specs.Places.{places_below}
use Rattle.hlc_csv.specs.Rows.{AddsText, text_of}
use Rattle.hlc_watched_log.specs.Summary.{node_row}
use Rattle.hlc_log_text.proofs.RowsAdded.{adds_none, adds_row_of_place}
use Rattle.hlc_watched_log.proofs.summary.push_nodes.Goals as goal

pub loop-node-init : goal.loop-node-init
loop-node-init g c = adds_none (g.W.Write.contents c.args.writer.now) c.args.rows.now

pub loop-node-preserved : goal.loop-node-preserved
loop-node-preserved g c =
    adds_row_of_place _ _ _ _ _ _ (node_row c.args.names.now c.args.tallies.now) c.loop-node.node c.loop-node.invariant c.in_ok-push_node.ensures

pub returns : goal.returns
returns g c =
    let tallies = c.args.tallies.now in
    let at = g.W.Write.contents in
    let all : c.loop-node.node ≡ length tallies = omega arith in
    subst (λ (n : ℕ). AddsText (at c.args.writer.now) (at c.loop-node.writer) c.args.rows.now c.loop-node.rows
    (text_of (map (node_row c.args.names.now tallies) (places_below n)))) all c.loop-node.invariant
