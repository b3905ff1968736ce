use Rattle.std.proofs.Common.{◌∙◌, ℕ, ◌<◌, ◌≤◌, ◌++◌, List, ap, arith, length, string_bytes, subst, sym}
use Rattle.hlc_figures.specs.FigureText.{named_lane_of, named_lane_text}
use Rattle.hlc_diagram.proofs.Texts.{adds_none, all_taken, taken_added}
use Rattle.hlc_diagram.proofs.drawing.draw_lanes.Goals as goal

pub loop-place-init : goal.loop-place-init
loop-place-init g c =
    let s = c.args.scene.now in
    adds_none (λ node. named_lane_text (named_lane_of (g.S.Subject.content c.args.subject.now) s.frame s.lanes.now node)) _ _

pub put_lane-requires : goal.put_lane-requires
put_lane-requires g c =
    let lanes = c.args.scene.now.lanes.now in
    let exists = c.requires c.loop-place.place 0 (omega arith) in
    subst (λ (n : ℕ). n < (g.S.Subject.content c.args.subject.now).nodes) (sym c.node-node.ensures) exists

pub loop-place-preserved : goal.loop-place-preserved
loop-place-preserved g c =
    let s = c.args.scene.now in
    let text : ℕ → List ℕ = λ node. named_lane_text (named_lane_of (g.S.Subject.content c.args.subject.now) s.frame s.lanes.now node) in
    let old = string_bytes c.loop-place.text in
    let grown = c.in_ok-put_lane.ensures ∙ ap (λ (node : ℕ). old ++ text node) c.node-node.ensures in
    taken_added text s.lanes.now c.loop-place.place 0 _ _ _ _ _ _ _ (omega arith) c.loop-place.invariant grown c.in_ok-spill.ensures.kept

pub returns-clause-text : goal.returns-clause-text
returns-clause-text g c =
    let s = c.args.scene.now in
    let text : ℕ → List ℕ = λ node. named_lane_text (named_lane_of (g.S.Subject.content c.args.subject.now) s.frame s.lanes.now node) in
    let all : length s.lanes.now ≤ c.loop-place.place = omega arith in
    all_taken text s.lanes.now c.loop-place.place _ _ _ _ all c.loop-place.invariant
