use Rattle.std.proofs.Common.{◌≡◌, ◌∙◌, ◌++◌, ℕ, [], true, ap, append-nil, string_bytes, sym}
use Rattle.std.proofs.lemmas.Result.{on_ok_weaker}
use Rattle.hlc_figures.specs.ChainFigure.{stop_arrow, stop_link}
use Rattle.hlc_figures.specs.FigureText.{back_text, front_text, lines_text}
use Rattle.hlc_figures.specs.Row.{row_at, row_text}
use Rattle.hlc_figures.specs.Standing.{dot_at}
use Rattle.hlc_figures.specs.Title.{title_text}
use Rattle.hlc_svg.specs.Frame.{row_y}
use Rattle.hlc_svg.specs.Shapes.{arrow_text, band_text, dot_text, if_drawn, link_text}
use Rattle.hlc_svg.specs.declared.dot.Dot.{Dot}
use Rattle.hlc_svg.specs.declared.shapes.Band.{Band}
use Rattle.hlc_svg.proofs.Added.{then_added}
use Rattle.hlc_figures.proofs.chain_figure.put_stop.Goals as goal

pub returns-in-Back : goal.returns-in-Back
unfolding back_text
returns-in-Back g c =
    let old = string_bytes c.args.text.now in
    rw c.in-Back.is (on_ok_weaker c.put_band.result (λ e. e ∙ ap (λ (b : Band). old ++ band_text b) c.band_at.ensures) c.put_band.ensures)

pub returns-in_ok-put_link-in-Lines : goal.returns-in_ok-put_link-in-Lines
unfolding lines_text
returns-in_ok-put_link-in-Lines g c =
    let of = g.S.Subject.content c.args.subject.now in
    let link = if_drawn link_text (stop_link of c.args.scene.now.frame c.args.scene.now.lanes.now c.args.stop) in
    let arrow = if_drawn arrow_text (stop_arrow of c.args.scene.now.frame c.args.scene.now.lanes.now c.args.stop) in
    let old = string_bytes c.args.text.now in
    let one = string_bytes c.put_link.new.text in
    let new = string_bytes c.put_arrow.new.text in
    let is_link : one ≡ old ++ link = c.in_ok-put_link-in-Lines.ensures ∙ ap (λ o. old ++ if_drawn link_text o) c.stop_link.ensures in
    rw c.in-Lines.is (on_ok_weaker c.put_arrow.result (λ e.
    then_added old one new link (arrow ++ []) is_link
    (e ∙ ap (λ o. one ++ if_drawn arrow_text o) c.stop_arrow.ensures ∙ ap (λ t. one ++ t) (sym (append-nil arrow)))) c.put_arrow.ensures)

pub returns-in_ok-put_dot-in-Front : goal.returns-in_ok-put_dot-in-Front
unfolding front_text
returns-in_ok-put_dot-in-Front g c =
    let frame = c.args.scene.now.frame in
    let of = g.S.Subject.content c.args.subject.now in
    let at = c.args.stop.at in
    let dot = dot_text (dot_at of frame c.args.scene.now.lanes.now at true) (title_text of at.event.0) in
    let row = row_text (row_at of frame (row_y at.row) at.event.0) in
    let old = string_bytes c.args.text.now in
    let one = string_bytes c.put_dot.new.text in
    let is_dot : one ≡ old ++ dot = c.in_ok-put_dot-in-Front.ensures ∙ ap (λ (d : Dot). old ++ dot_text d (title_text of d.event.0)) c.dot_at.ensures in
    let height = ap (λ (y : ℕ). one ++ row_text (row_at of frame y at.event.0)) c.row_y.ensures in
    rw c.in-Front.is (on_ok_weaker c.put_row.result (λ is. then_added old one (string_bytes c.put_row.new.text) dot row is_dot (is ∙ height)) c.put_row.ensures)
