use Rattle.std.proofs.Common.{◌<◌, arith, length}
use Rattle.std.proofs.lemmas.Bool.Decides.{nat_tests}
use Rattle.hlc_svg.proofs.Labels.{width_ends_with, width_goes_on_with}
use Rattle.hlc_svg.proofs.label.label_width.Goals as goal

pub returns-then-left-width-clause-width : goal.returns-then-left-width-clause-width
returns-then-left-width-clause-width c =
    let some : 0 < length c.rest.rest.now = grind (arith, nat_tests, c.is_empty.ensures) in
    let is = c.shown_first-shown.ensures in
    let wide = c.shown_width-width.ensures in
    let ends = width_ends_with c.rest.left c.rest.rest.now c.shown_first-shown.result c.shown_width-width.result some is wide c.if-left-width.true in
    let seen = c.rest.invariant.seen in
    omega (arith, ends, seen, c.from.ensures)

pub rest-preserved : goal.rest-preserved
rest-preserved c =
    let some : 0 < length c.rest.rest.now = grind (arith, nat_tests, c.is_empty.ensures) in
    let is = c.shown_first-shown.ensures in
    let wide = c.shown_width-width.ensures in
    let rest = c.rest_after-rest.result.now in
    let goes_on = width_goes_on_with c.rest.left c.rest.rest.now c.shown_first-shown.result c.shown_width-width.result some is wide rest
    c.if-left-width.false c.rest_after-rest.ensures in
    let seen = c.rest.invariant.seen in
    record { within = omega arith; seen = omega (arith, goes_on, seen) }
