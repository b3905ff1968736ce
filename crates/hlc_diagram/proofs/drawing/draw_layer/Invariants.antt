use Rattle.std.proofs.Common.{flat_map, string_bytes, take}
use Rattle.hlc_diagram.specs.Picture.{GrowsBy}
use Rattle.hlc_figures.specs.DrawnRow.{drawn_in, layer_text}
use Rattle.hlc_figures.specs.Rows.{rows_in}
use Rattle.hlc_diagram.proofs.drawing.draw_layer.Given as goal

abbrev pub invariant-loop-place : goal.invariant-loop-place
invariant-loop-place g l =
    GrowsBy (g.W.Write.contents l.fn.writer) (g.W.Write.contents l.writer) (string_bytes l.fn.text) (string_bytes l.text)
    (flat_map (λ row. layer_text l.layer (drawn_in (g.S.Subject.content l.subject) l.scene row)) (take l.place (rows_in l.scene.rows.now)))
