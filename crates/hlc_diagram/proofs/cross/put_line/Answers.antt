use Rattle.std.proofs.Common.{codes, string_bytes}
use Rattle.std.proofs.lemmas.Result.{on_ok_weaker}
use Rattle.hlc_svg.specs.Path.{path_of, points_text}
use Rattle.hlc_svg.proofs.Added.{then_added}
use Rattle.hlc_diagram.proofs.cross.put_line.Goals as goal

pub returns : goal.returns
returns c =
    let points = points_text (path_of c.args.cross.route) in
    on_ok_weaker c.put_points.result (λ e.
    then_added (string_bytes c.args.text.now) (string_bytes c.put.new.text) (string_bytes c.put_points.new.text)
    (codes "<polyline class=\"x\" points=\"") points c.in_ok-put.ensures e) c.put_points.ensures
