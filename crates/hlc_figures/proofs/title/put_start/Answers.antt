use Rattle.std.proofs.Common.{◌++◌, codes, string_bytes}
use Rattle.std.proofs.lemmas.Result.{err_from_is_err_and, on_ok_weaker}
use Rattle.hlc_svg.proofs.Added.{then_added}
use Rattle.hlc_figures.proofs.title.put_start.Goals as goal

pub returns : goal.returns
returns g c =
    let begins = codes "<title>event " in
    let event = (g.S.Subject.content c.args.subject.now).event c.args.event.0 in
    let ends = codes " at " in
    let old = string_bytes c.args.text.now in
    let one = string_bytes c.put.new.text in
    let two = string_bytes c.put_event.new.text in
    let new = string_bytes c.put-2.new.text in
    on_ok_weaker c.put-2.result (λ is.
    then_added old one new begins (event ++ ends) c.in_ok-put.ensures
    (then_added one two new event ends c.in_ok-put_event.ensures is)) c.put-2.ensures

pub returns-in_err-put : goal.returns-in_err-put
returns-in_err-put g c = rw (err_from_is_err_and c.from_residual.result c.from_residual.ensures.1).1 tt

pub returns-in_err-put_event : goal.returns-in_err-put_event
returns-in_err-put_event g c = rw (err_from_is_err_and c.from_residual-in_err-put_event.result c.from_residual-in_err-put_event.ensures.1).1 tt
