use Rattle.std.proofs.Common.{◌∙◌, ◌++◌, ap, codes, string_bytes}
use Rattle.std.proofs.lemmas.Result.{err_from_is_err_and, on_ok_weaker}
use Rattle.hlc_figures.specs.FigureText.{lane_below}
use Rattle.hlc_svg.specs.Shapes.{lane_line, lane_text, name_begins}
use Rattle.hlc_svg.specs.declared.shapes.Lane.{Lane}
use Rattle.hlc_svg.proofs.Added.{then_added}
use Rattle.hlc_figures.proofs.figure_text.put_lane.Goals as goal

pub returns : goal.returns
unfolding lane_text
returns g c =
    let lane = lane_below c.args.frame c.args.lanes.now c.args.node.0 in
    let of = g.S.Subject.content c.args.subject.now in
    let whole = of.whole_name c.args.node.0 in
    let name = of.name c.args.node.0 in
    let between = codes "</title>" in
    let is = c.lane_below-lane.ensures in
    let old = string_bytes c.args.text.now in
    let one = string_bytes c.put_lane_start.new.text in
    let two = string_bytes c.put_whole_name.new.text in
    let three = string_bytes c.put.new.text in
    let four = string_bytes c.put_name.new.text in
    let new = string_bytes c.put_lane_line.new.text in
    let begun = c.in_ok-put_lane_start.ensures ∙ ap (λ (l : Lane). old ++ name_begins l) is in
    on_ok_weaker c.put_lane_line.result (λ e.
    then_added old one new (name_begins lane) (whole ++ (between ++ (name ++ lane_line lane))) begun
    (then_added one two new whole (between ++ (name ++ lane_line lane)) c.in_ok-put_whole_name.ensures
    (then_added two three new between (name ++ lane_line lane) c.in_ok-put.ensures
    (then_added three four new name (lane_line lane) c.in_ok-put_name.ensures (e ∙ ap (λ (l : Lane). four ++ lane_line l) is))))) c.put_lane_line.ensures

pub returns-in_err-put_lane_start : goal.returns-in_err-put_lane_start
returns-in_err-put_lane_start g c = rw (err_from_is_err_and c.from_residual.result c.from_residual.ensures.1).1 tt

pub returns-in_err-put_whole_name : goal.returns-in_err-put_whole_name
returns-in_err-put_whole_name g c = rw (err_from_is_err_and c.from_residual-in_err-put_whole_name.result c.from_residual-in_err-put_whole_name.ensures.1).1 tt

pub returns-in_err-put : goal.returns-in_err-put
returns-in_err-put g c = rw (err_from_is_err_and c.from_residual-in_err-put.result c.from_residual-in_err-put.ensures.1).1 tt

pub returns-in_err-put_name : goal.returns-in_err-put_name
returns-in_err-put_name g c = rw (err_from_is_err_and c.from_residual-in_err-put_name.result c.from_residual-in_err-put_name.ensures.1).1 tt
