use Rattle.std.proofs.Common.{codes, string_bytes}
use Rattle.std.proofs.lemmas.Result.{err_from_is_err_and, on_ok_weaker}
use Rattle.hlc_figures.specs.Title.{fact_text}
use Rattle.hlc_svg.proofs.Added.{then_added}
use Rattle.hlc_figures.proofs.title.put_fact.Goals as goal

pub returns : goal.returns
unfolding fact_text
returns g c =
    let fact = (g.S.Subject.content c.args.subject.now).fact c.args.event.0 c.args.column in
    let old = string_bytes c.args.text.now in
    let one = string_bytes c.put_fact.new.text in
    let new = string_bytes c.put.new.text in
    on_ok_weaker c.put.result (λ e. then_added old one new fact (codes "\n") c.in_ok-put_fact.ensures e) c.put.ensures

pub returns-in_err-put_fact : goal.returns-in_err-put_fact
returns-in_err-put_fact g c = rw (err_from_is_err_and c.from_residual.result c.from_residual.ensures.1).1 tt
