use Rattle.std.proofs.Common.{◌∙◌, ◌++◌, ℕ, ap, codes, string_bytes}
use Rattle.std.proofs.lemmas.Result.{err_from_is_err_and, on_ok_weaker}
use Rattle.hlc_figures.specs.Content.{node_at}
use Rattle.hlc_figures.specs.Title.{place_begins, place_text}
use Rattle.hlc_svg.proofs.Added.{then_added}
use Rattle.hlc_figures.proofs.title.put_place.Goals as goal

pub returns : goal.returns
unfolding place_text
returns g c =
    let of = g.S.Subject.content c.args.subject.now in
    let e = c.args.event.0 in
    let name = of.name (node_at of e) in
    let old = string_bytes c.args.text.now in
    let one = string_bytes c.put_start.new.text in
    let two = string_bytes c.put_name.new.text in
    let new = string_bytes c.put.new.text in
    let named = c.in_ok-put_name.ensures ∙ ap (λ (node : ℕ). one ++ of.name node) c.node-node.ensures.node in
    on_ok_weaker c.put.result (λ is.
    then_added old one new (place_begins of e) (name ++ codes "\n") c.in_ok-put_start.ensures
    (then_added one two new name (codes "\n") named is)) c.put.ensures

pub returns-in_err-put_start : goal.returns-in_err-put_start
returns-in_err-put_start g c = rw (err_from_is_err_and c.from_residual.result c.from_residual.ensures.1).1 tt

pub returns-in_err-put_name : goal.returns-in_err-put_name
returns-in_err-put_name g c = rw (err_from_is_err_and c.from_residual-in_err-put_name.result c.from_residual-in_err-put_name.ensures.1).1 tt
