use Rattle.std.proofs.Common.{codes, string_bytes}
use Rattle.std.proofs.lemmas.Result.{on_ok_weaker}
use Rattle.hlc_svg.specs.Path.{path_of, points_text}
use Rattle.hlc_svg.specs.Shapes.{arrow_begins}
use Rattle.hlc_svg.proofs.Added.{then_added}
use Rattle.hlc_svg.proofs.arrow.put_path.Goals as goal

pub returns : goal.returns
returns c =
    let a = c.args.arrow in
    let points = points_text (path_of a.route) in
    let old = string_bytes c.args.text.now in
    let one = string_bytes c.put_start.new.text in
    let two = string_bytes c.put_points.new.text in
    let new = string_bytes c.put.new.text in
    on_ok_weaker c.put.result (λ e.
    then_added old one new (arrow_begins a) _ c.in_ok-put_start.ensures
    (then_added one two new points (codes "\"/>\n") c.in_ok-put_points.ensures e)) c.put.ensures
