use Rattle.std.proofs.Common.{ℕ, None}
use Rattle.std.specs.Prelude.{slice_index_or}
use Rattle.std.specs.List.{flat_map}
use Rattle.hlc_causality.specs.Places.{places_below}
use Rattle.hlc_csv.specs.Rows.{AddsText, text_of}
use Rattle.hlc_log_audit.specs.Report.{over_row}
use Rattle.hlc_log_audit.proofs.overs.push_each_over.Given as goal

-- the nodes before this one have their rows
abbrev pub invariant-loop-node : goal.invariant-loop-node
invariant-loop-node g l =
    AddsText (g.W.Write.contents l.fn.writer) (g.W.Write.contents l.writer) l.fn.rows l.rows
    (text_of (flat_map (λ (node : ℕ). over_row l.log.files l.log.nodes l.log.log node (slice_index_or l.overs node None)) (places_below l.node)))
