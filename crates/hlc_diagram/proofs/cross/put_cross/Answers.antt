use Rattle.std.proofs.Common.{◌++◌, string_bytes}
use Rattle.std.proofs.lemmas.Result.{on_ok_weaker}
use Rattle.hlc_diagram.specs.Cross.{cross_begins, cross_text, cross_title, title_ends}
use Rattle.hlc_svg.proofs.Added.{then_added}
use Rattle.hlc_diagram.proofs.cross.put_cross.Goals as goal

pub returns : goal.returns
unfolding cross_text
returns g c =
    let cross = c.args.cross in
    let name = (g.S.Subject.content c.args.subject.now).name cross.failed.first.to.0 in
    let ends = title_ends c.args.cross in
    let old = string_bytes c.args.text.now in
    let one = string_bytes c.put_line.new.text in
    let two = string_bytes c.put_title_start.new.text in
    let three = string_bytes c.put_name.new.text in
    let new = string_bytes c.put_title_end.new.text in
    on_ok_weaker c.put_title_end.result (λ e.
    then_added old one new (cross_begins cross) (cross_title cross ++ (name ++ ends)) c.in_ok-put_line.ensures
    (then_added one two new (cross_title cross) (name ++ ends) c.in_ok-put_title_start.ensures
    (then_added two three new name ends c.in_ok-put_name.ensures e))) c.put_title_end.ensures
