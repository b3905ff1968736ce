use Rattle.std.proofs.Common.{flat_map, string_bytes, take}
use Rattle.hlc_diagram.specs.Picture.{GrowsBy}
use Rattle.hlc_figures.specs.FigureText.{named_lane_of, named_lane_text}
use Rattle.hlc_diagram.proofs.drawing.draw_lanes.Given as goal

abbrev pub invariant-loop-place : goal.invariant-loop-place
invariant-loop-place g l =
    GrowsBy (g.W.Write.contents l.fn.writer) (g.W.Write.contents l.writer) (string_bytes l.fn.text) (string_bytes l.text)
    (flat_map (λ node. named_lane_text (named_lane_of (g.S.Subject.content l.subject) l.scene.frame l.scene.lanes.now node)) (take l.place l.scene.lanes.now))
