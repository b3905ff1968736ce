use Rattle.std.proofs.Common.{flat_map, string_bytes, take}
use Rattle.hlc_diagram.specs.Cross.{cross_of, cross_text}
use Rattle.hlc_diagram.specs.Picture.{GrowsBy}
use Rattle.hlc_svg.specs.Shapes.{if_drawn}
use Rattle.hlc_diagram.proofs.cross.draw_crosses.Given as goal

abbrev pub invariant-loop-message : goal.invariant-loop-message
invariant-loop-message g l =
    GrowsBy (g.W.Write.contents l.fn.writer) (g.W.Write.contents l.writer) (string_bytes l.fn.text) (string_bytes l.text)
    (flat_map (λ m. if_drawn cross_text (cross_of (g.S.Subject.content l.subject) l.scene.frame l.scene.lanes.now m)) (take l.message-index l.messages))
