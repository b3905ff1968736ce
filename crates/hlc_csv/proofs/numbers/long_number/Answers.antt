use Rattle.std.proofs.Common.{◌∙◌, sym, arith, drop, drop-cons, ◌≤◌, length, get_or, suc}
use Rattle.std.proofs.lemmas.Bool.Decides.{nat_tests}
use Rattle.hlc_csv.proofs.NumberFacts.{number_after-none, number_of-sized, number_after-end}
use Rattle.hlc_csv.proofs.numbers.long_number.Goals as goal

pub returns-in_err-value : goal.returns-in_err-value
returns-in_err-value c =
    let field = c.args.field.now in
    let at = c.loop-digit.digit-index in
    let some : 1 ≤ length field = grind (arith, nat_tests, c.if-is_empty.false, c.is_empty.ensures) in
    let sized = number_of-sized field some c.if-field-gt-MAX_DIGITS.false in
    let none =
    number_after-none c.loop-digit.value (get_or field at 0) (drop (suc at) field) (sym c.with_digit.ensures ∙ c.in_err-value.was) in
    c.from_residual.ensures ∙ sym (sized ∙ sym c.loop-digit.invariant.rest ∙ rw (drop-cons field at 0 c.loop-digit-test.true) none)

pub returns : goal.returns
returns c =
    let field = c.args.field.now in
    let some : 1 ≤ length field = grind (arith, nat_tests, c.if-is_empty.false, c.is_empty.ensures) in
    let sized = number_of-sized field some c.if-field-gt-MAX_DIGITS.false in
    let whole = number_after-end c.loop-digit.value c.loop-digit.digit-index field c.loop-digit.invariant.fits c.loop-digit-test.false in
    sym (sized ∙ sym c.loop-digit.invariant.rest ∙ whole)
