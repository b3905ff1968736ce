use Rattle.std.proofs.Common.{◌++◌, codes, string_bytes}
use Rattle.std.proofs.lemmas.Result.{err_from_is_err_and, on_ok_weaker}
use Rattle.hlc_figures.specs.Head.{chain_note, length_text}
use Rattle.hlc_svg.proofs.Added.{then_added}
use Rattle.hlc_figures.proofs.caption.put_chain.Goals as goal

pub returns : goal.returns
unfolding chain_note
returns g c =
    let of = g.S.Subject.content c.args.subject.now in
    let begins = codes " Marked: the chain of event " in
    let event = of.event c.args.event.0 in
    let from = codes ", from event " in
    let origin = of.event c.args.origin.0 in
    let ends = length_text c.args.len in
    let old = string_bytes c.args.text.now in
    let one = string_bytes c.put.new.text in
    let two = string_bytes c.put_event.new.text in
    let three = string_bytes c.put-2.new.text in
    let four = string_bytes c.put_event-2.new.text in
    let new = string_bytes c.put_length.new.text in
    on_ok_weaker c.put_length.result (λ is.
    then_added old one new begins (event ++ (from ++ (origin ++ ends))) c.in_ok-put.ensures
    (then_added one two new event (from ++ (origin ++ ends)) c.in_ok-put_event.ensures
    (then_added two three new from (origin ++ ends) c.in_ok-put-2.ensures
    (then_added three four new origin ends c.in_ok-put_event-2.ensures is)))) c.put_length.ensures

pub returns-in_err-put : goal.returns-in_err-put
returns-in_err-put g c = rw (err_from_is_err_and c.from_residual.result c.from_residual.ensures.1).1 tt

pub returns-in_err-put_event : goal.returns-in_err-put_event
returns-in_err-put_event g c = rw (err_from_is_err_and c.from_residual-in_err-put_event.result c.from_residual-in_err-put_event.ensures.1).1 tt

pub returns-in_err-put-2 : goal.returns-in_err-put-2
returns-in_err-put-2 g c = rw (err_from_is_err_and c.from_residual-in_err-put-2.result c.from_residual-in_err-put-2.ensures.1).1 tt

pub returns-in_err-put_event-2 : goal.returns-in_err-put_event-2
returns-in_err-put_event-2 g c = rw (err_from_is_err_and c.from_residual-in_err-put_event-2.result c.from_residual-in_err-put_event-2.ensures.1).1 tt
