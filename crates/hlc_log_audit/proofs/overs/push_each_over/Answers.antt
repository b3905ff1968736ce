use Rattle.std.proofs.Common.{◌≡◌, ◌<◌, ℕ, List, None, ap, length, arith, subst}
use Rattle.std.specs.Prelude.{slice_index_or}
use Rattle.std.specs.List.{flat_map}
use Rattle.hlc_causality.specs.Places.{places_below}
use Rattle.hlc_csv.specs.Rows.{AddsText, text_of}
use Rattle.hlc_log_audit.specs.Report.{over_row}
use Rattle.hlc_log_audit.proofs.OverRows.{names_places}
use Rattle.hlc_log_text.proofs.RowsAdded.{adds_none}
use Rattle.hlc_log_audit.proofs.RowsOfPlaces.{adds_place}
use Rattle.hlc_log_audit.proofs.overs.push_each_over.Goals as goal

pub loop-node-init : goal.loop-node-init
loop-node-init g c = adds_none (g.W.Write.contents c.args.writer.now) c.args.rows.now

pub loop-node-preserved : goal.loop-node-preserved
loop-node-preserved g c =
    let overs = c.args.overs.now in
    adds_place _ _ _ _ _ _ (λ (node : ℕ). over_row c.args.log.now.files c.args.log.now.nodes c.args.log.now.log node (slice_index_or overs node None))
    c.loop-node.node c.loop-node.invariant c.in_ok-push_if_over.ensures

pub push_if_over-requires : goal.push_if_over-requires
push_if_over-requires g c =
    let node = c.loop-node.node in
    let names = ap (λ (names : List (List ℕ)). length names) c.nodes.ensures.value in
    let within : node < length c.args.log.now.nodes = omega (arith, c.loop-node-test.true, c.len-node-end.ensures, names) in
    names_places c.args.limit c.args.log.now.log node (slice_index_or c.args.overs.now node None) (c.requires.each node within)

pub returns : goal.returns
returns g c =
    let at = g.W.Write.contents in
    let overs = c.args.overs.now in
    let all : c.loop-node.node ≡ length c.args.log.now.nodes = omega (arith, c.len-node-end.ensures, ap (λ (names : List (List ℕ)). length names) c.nodes.ensures.value) in
    let rows = λ (n : ℕ).
    flat_map (λ (node : ℕ). over_row c.args.log.now.files c.args.log.now.nodes c.args.log.now.log node (slice_index_or overs node None)) (places_below n) in
    subst (λ (n : ℕ). AddsText (at c.args.writer.now) (at c.loop-node.writer) c.args.rows.now c.loop-node.rows (text_of (rows n))) all
    c.loop-node.invariant
