use Rattle.std.proofs.Common.{◌≡◌, ◌∙◌, ◌++◌, ◌∷◌, [], append-nil, append_assoc, ap, rules, subst, sym}
use Rattle.hlc_csv.specs.Rows.{AddsText, text_of}
use Rattle.hlc_ordered_log.specs.declared.skew_nodes.SkewNodes.{SkewNodes}
use Rattle.hlc_watched_log.specs.Skews.{ShownSkews, skew_row, skew_rows}
use Rattle.hlc_watched_log.specs.declared.shown_skew.ShownSkew.{ShownSkew}
use Rattle.hlc_log_text.proofs.RowsAdded.{adds_none, adds_row}
use Rattle.hlc_watched_log.proofs.skews.push_skews.Goals as goal

pub loop-nodes-init : goal.loop-nodes-init
loop-nodes-init g c = ([], search rules, adds_none (g.W.Write.contents c.args.writer.now) c.args.rows.now)

pub loop-nodes-preserved : goal.loop-nodes-preserved
loop-nodes-preserved g c =
    let told = c.loop-nodes.invariant in
    let here : SkewNodes × ShownSkew = (c.in-Some.nodes.now, c.in-Some.skew.now) in (
      told.0 ++ here ∷ [],
      append_assoc told.0 (here ∷ []) c.next.new.self ∙ ap (λ (rest : ShownSkews). told.0 ++ rest) (sym c.in-Some.ensures.steps) ∙ told.1,
      adds_row _ _ _ _ _ _ (skew_row c.args.names.now) told.0 here told.2 c.in_ok-push_skew.ensures,
    )

pub returns : goal.returns
returns g c =
    let told = c.loop-nodes.invariant in
    let at = g.W.Write.contents in
    let all : told.0 ≡ c.args.skews.now.entries =
    sym (append-nil told.0) ∙ ap (λ (rest : ShownSkews). told.0 ++ rest) (sym c.in-None.ensures.steps.0) ∙ told.1 in
    subst (λ (skews : ShownSkews). AddsText (at c.args.writer.now) (at c.loop-nodes.writer) c.args.rows.now c.loop-nodes.rows
    (text_of (skew_rows c.args.names.now skews))) all told.2
