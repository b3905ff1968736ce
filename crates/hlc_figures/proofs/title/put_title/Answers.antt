use Rattle.std.proofs.Common.{◌++◌, codes, flat_map, string_bytes}
use Rattle.std.proofs.lemmas.Result.{err_from_is_err_and, on_ok_weaker}
use Rattle.hlc_causality.specs.Places.{places_below}
use Rattle.hlc_figures.specs.Figure.{forcing_at}
use Rattle.hlc_figures.specs.Title.{fact_text, least_text, place_text, reason_text, title_text}
use Rattle.hlc_svg.proofs.Added.{then_added}
use Rattle.hlc_figures.proofs.title.put_title.Goals as goal

pub returns : goal.returns
unfolding title_text
returns g c =
    let of = g.S.Subject.content c.args.subject.now in
    let e = c.args.event.0 in
    let place = place_text of e in
    let facts = flat_map (fact_text of e) (places_below of.columns) in
    let least = least_text of e in
    let reason = reason_text of e (forcing_at of e) in
    let ends = codes "</title>" in
    let old = string_bytes c.args.text.now in
    let one = string_bytes c.put_place.new.text in
    let two = string_bytes c.put_facts.new.text in
    let three = string_bytes c.put_least.new.text in
    let four = string_bytes c.put_reason.new.text in
    let new = string_bytes c.put.new.text in
    on_ok_weaker c.put.result (λ is.
    then_added old one new place (facts ++ (least ++ (reason ++ ends))) c.in_ok-put_place.ensures
    (then_added one two new facts (least ++ (reason ++ ends)) c.in_ok-put_facts.ensures
    (then_added two three new least (reason ++ ends) c.in_ok-put_least.ensures
    (then_added three four new reason ends c.in_ok-put_reason.ensures is)))) c.put.ensures

pub returns-in_err-put_place : goal.returns-in_err-put_place
returns-in_err-put_place g c = rw (err_from_is_err_and c.from_residual.result c.from_residual.ensures.1).1 tt

pub returns-in_err-put_facts : goal.returns-in_err-put_facts
returns-in_err-put_facts g c = rw (err_from_is_err_and c.from_residual-in_err-put_facts.result c.from_residual-in_err-put_facts.ensures.1).1 tt

pub returns-in_err-put_least : goal.returns-in_err-put_least
returns-in_err-put_least g c = rw (err_from_is_err_and c.from_residual-in_err-put_least.result c.from_residual-in_err-put_least.ensures.1).1 tt

pub returns-in_err-put_reason : goal.returns-in_err-put_reason
returns-in_err-put_reason g c = rw (err_from_is_err_and c.from_residual-in_err-put_reason.result c.from_residual-in_err-put_reason.ensures.1).1 tt
