use Rattle.std.proofs.Common.{◌<◌, arith}
use Rattle.hlc_csv.proofs.NumberFacts.{below_power}
use Rattle.hlc_csv.proofs.numbers.short_number.Goals as goal

pub overflow_mul-value : goal.overflow_mul-value
overflow_mul-value c =
    let few : c.loop-digit.digit-index < 19 = omega (arith, c.loop-digit-test.true, c.requires.few) in
    omega (arith, below_power c.loop-digit.value c.loop-digit.digit-index c.loop-digit.invariant.below few)

pub overflow_add-value : goal.overflow_add-value
overflow_add-value c =
    let few : c.loop-digit.digit-index < 19 = omega (arith, c.loop-digit-test.true, c.requires.few) in
    omega (arith, below_power c.loop-digit.value c.loop-digit.digit-index c.loop-digit.invariant.below few, c.from.ensures)
