use Rattle.std.proofs.Common.{◌∙◌, ◌++◌, ◌<◌, ◌≤◌, List, ℕ, ap, arith, length, string_bytes, subst, sym}
use Rattle.hlc_figures.specs.DrawnRow.{drawn_in, layer_text}
use Rattle.hlc_figures.specs.Rows.{rows_in}
use Rattle.hlc_figures.specs.Scene.{IsRowOf}
use Rattle.hlc_figures.specs.declared.rows.Row.{Row}
use Rattle.hlc_diagram.proofs.Texts.{adds_none, all_taken, taken_added}
use Rattle.hlc_diagram.proofs.drawing.draw_layer.Goals as goal

pub loop-place-init : goal.loop-place-init
loop-place-init g c = adds_none (λ (row : Row). layer_text c.args.layer (drawn_in (g.S.Subject.content c.args.subject.now) c.args.scene.now row)) _ _

pub put_layer-requires : goal.put_layer-requires
put_layer-requires g c =
    let s = c.args.scene.now in
    let of = g.S.Subject.content c.args.subject.now in
    let row = c.row.result in
    let within : c.loop-place.place < length (rows_in s.rows.now) = omega (arith, c.len-place-end.ensures) in
    record {
      columns = c.requires.columns;
      row = subst (λ (r : Row). IsRowOf of s r) (sym (c.row.ensures row)) (c.requires.rows c.loop-place.place row within);
    }

pub loop-place-preserved : goal.loop-place-preserved
loop-place-preserved g c =
    let s = c.args.scene.now in
    let text : Row → List ℕ = λ row. layer_text c.args.layer (drawn_in (g.S.Subject.content c.args.subject.now) s row) in
    let old = string_bytes c.loop-place.text in
    let row = c.row.result in
    let within : c.loop-place.place < length (rows_in s.rows.now) = omega (arith, c.len-place-end.ensures) in
    let grown = c.in_ok-put_layer.ensures ∙ ap (λ (r : Row). old ++ text r) (c.row.ensures row) in
    taken_added text (rows_in s.rows.now) c.loop-place.place row _ _ _ _ _ _ _ within c.loop-place.invariant grown c.in_ok-spill.ensures.kept

pub returns-clause-text : goal.returns-clause-text
returns-clause-text g c =
    let s = c.args.scene.now in
    let text : Row → List ℕ = λ row. layer_text c.args.layer (drawn_in (g.S.Subject.content c.args.subject.now) s row) in
    let all : length (rows_in s.rows.now) ≤ c.loop-place.place = omega (arith, c.len-place-end.ensures) in
    all_taken text (rows_in s.rows.now) c.loop-place.place _ _ _ _ all c.loop-place.invariant
