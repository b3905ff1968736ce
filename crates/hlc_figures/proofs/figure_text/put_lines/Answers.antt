use Rattle.std.proofs.Common.{◌≡◌, ◌∙◌, ◌++◌, ap, string_bytes}
use Rattle.std.proofs.lemmas.Result.{err_from_is_err_and, on_ok_weaker}
use Rattle.hlc_figures.specs.Figure.{arrow_of, entering_of, leaving_of, link_of, stub_of}
use Rattle.hlc_svg.specs.Shapes.{if_drawn, arrow_text, end_text, link_text}
use Rattle.hlc_figures.specs.FigureText.{lines_text}
use Rattle.hlc_svg.proofs.Added.{then_added}
use Rattle.hlc_figures.proofs.figure_text.put_lines.Goals as goal

pub returns : goal.returns
unfolding lines_text
returns g c =
    let s = c.args.scene.now in
    let of = g.S.Subject.content c.args.subject.now in
    let link = if_drawn link_text (link_of of s.explained s.frame s.lanes.now c.args.event.0) in
    let stub = if_drawn link_text (stub_of of s.explained s.frame s.lanes.now c.args.event.0) in
    let arrow = if_drawn arrow_text (arrow_of of s.explained s.frame s.lanes.now c.args.event.0) in
    let entering = if_drawn end_text (entering_of of s.explained s.frame s.lanes.now c.args.event.0) in
    let leaving = if_drawn end_text (leaving_of of s.explained s.frame s.lanes.now c.args.event.0) in
    let old = string_bytes c.args.text.now in
    let one = string_bytes c.put_link.new.text in
    let two = string_bytes c.put_link-2.new.text in
    let three = string_bytes c.put_arrow.new.text in
    let four = string_bytes c.put_end.new.text in
    let new = string_bytes c.put_end-2.new.text in
    let is_link : one ≡ old ++ link = c.in_ok-put_link.ensures ∙ ap (λ o. old ++ if_drawn link_text o) c.link.ensures in
    let is_stub : two ≡ one ++ stub = c.in_ok-put_link-2.ensures ∙ ap (λ o. one ++ if_drawn link_text o) c.stub.ensures in
    let is_arrow : three ≡ two ++ arrow = c.in_ok-put_arrow.ensures ∙ ap (λ o. two ++ if_drawn arrow_text o) c.arrow.ensures in
    let is_entering : four ≡ three ++ entering = c.in_ok-put_end.ensures ∙ ap (λ o. three ++ if_drawn end_text o) c.entering.ensures in
    on_ok_weaker c.put_end-2.result (λ e.
    then_added old one new link (stub ++ (arrow ++ (entering ++ leaving))) is_link
    (then_added one two new stub (arrow ++ (entering ++ leaving)) is_stub
    (then_added two three new arrow (entering ++ leaving) is_arrow
    (then_added three four new entering leaving is_entering (e ∙ ap (λ o. four ++ if_drawn end_text o) c.leaving.ensures))))) c.put_end-2.ensures

pub returns-in_err-put_link : goal.returns-in_err-put_link
returns-in_err-put_link g c = rw (err_from_is_err_and c.from_residual.result c.from_residual.ensures.1).1 tt

pub returns-in_err-put_link-2 : goal.returns-in_err-put_link-2
returns-in_err-put_link-2 g c = rw (err_from_is_err_and c.from_residual-in_err-put_link-2.result c.from_residual-in_err-put_link-2.ensures.1).1 tt

pub returns-in_err-put_arrow : goal.returns-in_err-put_arrow
returns-in_err-put_arrow g c = rw (err_from_is_err_and c.from_residual-in_err-put_arrow.result c.from_residual-in_err-put_arrow.ensures.1).1 tt

pub returns-in_err-put_end : goal.returns-in_err-put_end
returns-in_err-put_end g c = rw (err_from_is_err_and c.from_residual-in_err-put_end.result c.from_residual-in_err-put_end.ensures.1).1 tt
