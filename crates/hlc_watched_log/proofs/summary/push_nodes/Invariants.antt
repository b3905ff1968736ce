use Rattle.std.proofs.Common.{map}
use Rattle.hlc_causality.specs.Places.{places_below}
use Rattle.hlc_csv.specs.Rows.{AddsText, text_of}
use Rattle.hlc_watched_log.specs.Summary.{node_row}
use Rattle.hlc_watched_log.proofs.summary.push_nodes.Given as goal

-- the nodes before this one have their rows
abbrev pub invariant-loop-node : goal.invariant-loop-node
invariant-loop-node g l =
    AddsText (g.W.Write.contents l.fn.writer) (g.W.Write.contents l.writer) l.fn.rows l.rows
    (text_of (map (node_row l.names l.tallies) (places_below l.node)))
