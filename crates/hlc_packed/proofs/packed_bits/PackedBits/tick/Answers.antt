use Rattle.std.proofs.Common.{◌+◌, arith}
use Rattle.hlc_packed.proofs.StepFacts.{greater_within_limit, tick_of_greater}
use Rattle.hlc_packed.proofs.packed_bits.PackedBits.tick.Goals as goal

pub returns-clause-least : goal.returns-clause-least
returns-clause-least c = tick_of_greater _ _ _ _ (omega (arith, c.in-Some.ensures))

pub returns-clause-within_limit : goal.returns-clause-within_limit
returns-clause-within_limit c =
    greater_within_limit c.args.self.bits c.args.reading (c.args.old + 1) c.max.result c.args.limit (omega (arith, c.in-Some.ensures))
    (λ far. let no = c.if-is_next_too_far.ensures.1 far in cc)
