use Rattle.std.proofs.Common.{◌≡◌, ◌∙◌, ◌++◌, ◌∷◌, [], IfSome, Option, append-nil, append_assoc, ap, length, map, rules, subst, sym}
use Rattle.std.specs.Map.Iter.{deref_pair}
use Rattle.std.proofs.lemmas.Map.Iter.{btree_map_turn}
use Rattle.hlc_csv.specs.Rows.{AddsText, text_of}
use Rattle.hlc_ordered_log.specs.InOrder.{skeleton_of}
use Rattle.hlc_ordered_log.specs.Skew.{Skews, skew_between}
use Rattle.hlc_ordered_log.specs.declared.skew.Skew.{Skew}
use Rattle.hlc_ordered_log.specs.declared.skew_nodes.SkewNodes.{SkewNodes}
use Rattle.hlc_ordered_log.proofs.SkewOrder.{by_nodes_total}
use Rattle.hlc_log_audit.specs.Report.{IsSkewOfEvents, skew_row}
use Rattle.hlc_log_audit.proofs.EventsInOrder.{skew_of_events}
use Rattle.hlc_log_text.proofs.RowsAdded.{adds_none, adds_row}
use Rattle.hlc_log_audit.proofs.skews.push_skews.Goals as goal

pub loop-between-init : goal.loop-between-init
loop-between-init g c = ([], search rules, adds_none (g.W.Write.contents c.args.writer.now) c.args.rows.now)

pub push_skew-requires : goal.push_skew-requires
push_skew-requires g c =
    let log = c.args.log.now in
    let skews = c.args.skews.now in
    let nodes = c.in-Some.between.now in
    let found =
    btree_map_turn deref_pair c.loop-between.yielded c.into_iter-between-iterator.result c.loop-between.between-iterator c.next.new.self c.next.result
    (c.in-Some.between, c.in-Some.skew) c.loop-between.yielded_by c.in-Some.is c.next.ensures.steps by_nodes_total skews (search rules) c.requires.skews.sorted in
    subst (λ (o : Option Skew). IfSome o (IsSkewOfEvents log)) found.1
    (skew_of_events log c.requires.ordered (length (skeleton_of log)) nodes.from.0 nodes.to.0 (skew_between skews.entries nodes) (c.requires.skews.each nodes))

pub loop-between-preserved : goal.loop-between-preserved
loop-between-preserved g c =
    let told = c.loop-between.invariant in
    let here : SkewNodes × Skew = (c.in-Some.between.now, c.in-Some.skew.now) in (
      told.0 ++ here ∷ [],
      append_assoc told.0 (here ∷ []) c.next.new.self ∙ ap (λ (rest : Skews). told.0 ++ rest) (sym c.in-Some.ensures.steps) ∙ told.1,
      adds_row _ _ _ _ _ _ (skew_row c.args.files.now c.args.nodes.now c.args.log.now) told.0 here told.2 c.in_ok-push_skew.ensures,
    )

pub returns : goal.returns
returns g c =
    let told = c.loop-between.invariant in
    let at = g.W.Write.contents in
    let all : told.0 ≡ c.args.skews.now.entries = sym (append-nil told.0) ∙ ap (λ (rest : Skews). told.0 ++ rest) (sym c.in-None.ensures.steps.0) ∙ told.1 in
    subst (λ (skews : Skews). AddsText (at c.args.writer.now) (at c.loop-between.writer) c.args.rows.now c.loop-between.rows
    (text_of (map (skew_row c.args.files.now c.args.nodes.now c.args.log.now) skews))) all told.2
