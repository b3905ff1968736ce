use Rattle.std.proofs.Common.{◌∙◌, ◌++◌, ℕ, List, ap, codes, flat_map, map, string_bytes, subst}
use Rattle.std.proofs.lemmas.Result.{on_ok_weaker}
use Rattle.std.specs.Io.KnownBytes.{Appends}
use Rattle.hlc_causality.specs.Places.{places_below}
use Rattle.hlc_figures.specs.DrawnRow.{drawn_in, layer_text}
use Rattle.hlc_diagram.specs.Cross.{cross_of, cross_text}
use Rattle.hlc_figures.specs.Head.{head_text, heading_of}
use Rattle.hlc_figures.specs.FigureText.{named_lane_of, named_lane_text}
use Rattle.hlc_figures.specs.Rows.{rows_in}
use Rattle.hlc_figures.specs.declared.layer.Layer.TheVariants.{Back, Front, Lines}
use Rattle.hlc_svg.specs.Shapes.{if_drawn}
use Rattle.hlc_diagram.proofs.Texts.{adds_then, parts_drawn, parts_of_picture}
use Rattle.hlc_diagram.proofs.drawing.draw_parts.Goals as goal

pub returns-clause-text : goal.returns-clause-text
returns-clause-text g c =
    let s = c.args.scene.now in
    let of = g.S.Subject.content c.args.subject.now in
    let headings = map (heading_of of s.frame) (places_below of.columns) in
    let bytes = g.W.Write.contents in
    let rows = rows_in s.rows.now in
    let head = head_text s.frame c.args.caption.now of.legend headings in
    let backs = flat_map (λ row. layer_text Back (drawn_in of s row)) rows in
    let lanes = flat_map (λ node. named_lane_text (named_lane_of of s.frame s.lanes.now node)) s.lanes.now in
    let lines = flat_map (λ row. layer_text Lines (drawn_in of s row)) rows in
    let fronts = flat_map (λ row. layer_text Front (drawn_in of s row)) rows in
    let foot = codes "</svg>\n" in
    let crosses = flat_map (λ m. if_drawn cross_text (cross_of of s.frame s.lanes.now m)) c.args.messages.now in
    let rest = backs ++ (lanes ++ ((lines ++ crosses) ++ (fronts ++ foot))) in
    let w0 = bytes c.args.writer.now in
    let w1 = bytes c.draw_layer.new.writer in
    let w2 = bytes c.draw_lanes.new.writer in
    let w3 = bytes c.draw_layer-2.new.writer in
    let w4 = bytes c.draw_crosses.new.writer in
    let w5 = bytes c.draw_layer-3.new.writer in
    let w6 = bytes c.finish.new.writer in
    let t0 = string_bytes c.put_head.new.text in
    let t1 = string_bytes c.draw_layer.new.text in
    let t2 = string_bytes c.draw_lanes.new.text in
    let t3 = string_bytes c.draw_layer-2.new.text in
    let t4 = string_bytes c.draw_crosses.new.text in
    let t5 = string_bytes c.draw_layer-3.new.text in
    let begins = c.in_ok-put_head.ensures ∙ ap (λ (t : List ℕ). t ++ head) c.new-text.ensures.bytes in
    let drawn =
    parts_drawn w0 w1 w2 w4 w5 w6 t0 t1 t2 t4 t5 head backs lanes (lines ++ crosses) fronts foot begins c.in_ok-draw_layer.ensures.text
    c.in_ok-draw_lanes.ensures.text
    (adds_then w2 w3 w4 t2 t3 t4 lines crosses c.in_ok-draw_layer-2.ensures.text c.in_ok-draw_crosses.ensures.text)
    c.in_ok-draw_layer-3.ensures.text in
    let text =
    ap (λ (caption : List ℕ). head_text s.frame caption of.legend headings ++ rest) c.requires.caption
    ∙ parts_of_picture of s.frame s.lanes.now s.explained rows c.args.messages.now in
    on_ok_weaker c.finish.result
    (λ ends. subst (λ (t : List ℕ). Appends w0 w6 t) text (drawn ends)) c.finish.ensures.text
