use Rattle.std.proofs.Common.{◌≡◌, ◌∙◌, ℕ, ◌<◌, ap, length, map, arith, subst}
use Rattle.std.proofs.lemmas.List.{get_or_default}
use Rattle.hlc_causality.specs.Places.{places_below}
use Rattle.hlc_csv.specs.Rows.{AddsText, text_of}
use Rattle.hlc_log_audit.specs.Report.{node_row}
use Rattle.hlc_log_audit.specs.Tally.{no_tally}
use Rattle.hlc_log_audit.specs.declared.tally.NodeTally.{NodeTally}
use Rattle.hlc_log_audit.proofs.Tallies.{all_events_counted}
use Rattle.hlc_log_text.proofs.RowsAdded.{adds_none, adds_row_of_place}
use Rattle.hlc_log_audit.proofs.nodes.push_nodes.Goals as goal

pub push_node-requires-clause-events : goal.push_node-requires-clause-events
push_node-requires-clause-events g c =
    let log = c.args.log.now in
    let within : c.loop-node.node < log.nodes = omega (arith, c.requires.nodes, c.loop-node-test.true, c.len-node-end.ensures.len) in
    let tallies = c.in_ok-tallies.ensures in
    let size = tallies.nodes in
    let told = c.index-tally.ensures ∙ get_or_default c.in_ok-tallies.tallies.items c.loop-node.node c.index-tally.result.now no_tally (omega arith) in
    let is = told ∙ tallies.each c.loop-node.node within in
    ap (λ (tally : NodeTally). tally.events) is ∙ all_events_counted log c.requires.ordered c.loop-node.node

pub push_node-requires-clause-furthest : goal.push_node-requires-clause-furthest
push_node-requires-clause-furthest g c =
    let log = c.args.log.now in
    let within : c.loop-node.node < log.nodes = omega (arith, c.requires.nodes, c.loop-node-test.true, c.len-node-end.ensures.len) in
    let tallies = c.in_ok-tallies.ensures in
    let size = tallies.nodes in
    let told = c.index-tally.ensures ∙ get_or_default c.in_ok-tallies.tallies.items c.loop-node.node c.index-tally.result.now no_tally (omega arith) in
    let is = told ∙ tallies.each c.loop-node.node within in
    ap (λ (tally : NodeTally). tally.furthest) is

pub loop-node-init : goal.loop-node-init
loop-node-init g c = adds_none (g.W.Write.contents c.args.writer.now) c.args.rows.now

pub loop-node-preserved : goal.loop-node-preserved
loop-node-preserved g c =
    adds_row_of_place _ _ _ _ _ _ (node_row c.args.files.now c.args.nodes.now c.args.log.now) c.loop-node.node c.loop-node.invariant c.in_ok-push_node.ensures

pub returns : goal.returns
returns g c =
    let nodes = c.args.nodes.now in
    let at = g.W.Write.contents in
    let all : c.loop-node.node ≡ length nodes = omega (arith, c.len-node-end.ensures) in
    subst (λ (n : ℕ). AddsText (at c.args.writer.now) (at c.loop-node.writer) c.args.rows.now c.loop-node.rows
    (text_of (map (node_row c.args.files.now nodes c.args.log.now) (places_below n)))) all c.loop-node.invariant
