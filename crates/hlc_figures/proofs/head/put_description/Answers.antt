use Rattle.std.proofs.Common.{◌∙◌, ◌++◌, List, ℕ, ap, codes, string_bytes}
use Rattle.std.proofs.lemmas.Result.{err_from_is_err_and, on_ok_weaker}
use Rattle.hlc_figures.specs.Head.{description_begins, description_text, laneless_text}
use Rattle.hlc_svg.proofs.Added.{then_added}
use Rattle.hlc_figures.proofs.head.put_description.Goals as goal

pub returns : goal.returns
unfolding description_text
returns g c =
    let begins = description_begins c.args.frame c.args.caption.now in
    let legend = (g.S.Subject.content c.args.subject.now).legend in
    let laneless = laneless_text c.args.frame in
    let ends = codes "</desc>\n" in
    let old = string_bytes c.args.text.now in
    let one = string_bytes c.put_description_start.new.text in
    let two = string_bytes c.put_legend.new.text in
    let three = string_bytes c.put.new.text in
    let new = string_bytes c.put-2.new.text in
    let told = c.in_ok-put.ensures ∙ ap (λ (t : List ℕ). two ++ t) c.laneless.ensures in
    on_ok_weaker c.put-2.result (λ e.
    then_added old one new begins (legend ++ (laneless ++ ends)) c.in_ok-put_description_start.ensures
    (then_added one two new legend (laneless ++ ends) c.in_ok-put_legend.ensures
    (then_added two three new laneless ends told e))) c.put-2.ensures

pub returns-in_err-put_description_start : goal.returns-in_err-put_description_start
returns-in_err-put_description_start g c = rw (err_from_is_err_and c.from_residual.result c.from_residual.ensures.1).1 tt

pub returns-in_err-put_legend : goal.returns-in_err-put_legend
returns-in_err-put_legend g c = rw (err_from_is_err_and c.from_residual-in_err-put_legend.result c.from_residual-in_err-put_legend.ensures.1).1 tt

pub returns-in_err-put : goal.returns-in_err-put
returns-in_err-put g c = rw (err_from_is_err_and c.from_residual-in_err-put.result c.from_residual-in_err-put.ensures.1).1 tt
