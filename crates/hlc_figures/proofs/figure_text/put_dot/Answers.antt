use Rattle.std.proofs.Common.{◌++◌, string_bytes}
use Rattle.std.proofs.lemmas.Result.{err_from_is_err_and, on_ok_weaker}
use Rattle.hlc_svg.specs.Shapes.{dot_begins, dot_ends, dot_text, ring_if}
use Rattle.hlc_figures.specs.Title.{title_text}
use Rattle.hlc_svg.proofs.Added.{then_added}
use Rattle.hlc_figures.proofs.figure_text.put_dot.Goals as goal

pub returns : goal.returns
unfolding dot_text
returns g c =
    let dot = c.args.dot in
    let title = title_text (g.S.Subject.content c.args.subject.now) dot.event.0 in
    let ring = ring_if dot.look.is_ringed dot.half in
    let old = string_bytes c.args.text.now in
    let one = string_bytes c.put_dot_start.new.text in
    let two = string_bytes c.put_title.new.text in
    let three = string_bytes c.put_ring.new.text in
    let new = string_bytes c.put_dot_end.new.text in
    on_ok_weaker c.put_dot_end.result (λ e.
    then_added old one new (dot_begins dot) (title ++ (ring ++ dot_ends dot)) c.in_ok-put_dot_start.ensures
    (then_added one two new title (ring ++ dot_ends dot) c.in_ok-put_title.ensures
    (then_added two three new ring (dot_ends dot) c.in_ok-put_ring.ensures e))) c.put_dot_end.ensures

pub returns-in_err-put_dot_start : goal.returns-in_err-put_dot_start
returns-in_err-put_dot_start g c = rw (err_from_is_err_and c.from_residual.result c.from_residual.ensures.1).1 tt

pub returns-in_err-put_title : goal.returns-in_err-put_title
returns-in_err-put_title g c = rw (err_from_is_err_and c.from_residual-in_err-put_title.result c.from_residual-in_err-put_title.ensures.1).1 tt

pub returns-in_err-put_ring : goal.returns-in_err-put_ring
returns-in_err-put_ring g c = rw (err_from_is_err_and c.from_residual-in_err-put_ring.result c.from_residual-in_err-put_ring.ensures.1).1 tt
