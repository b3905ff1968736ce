use Rattle.std.proofs.Common.{◌+◌, arith, max}
use Rattle.hlc_packed.proofs.StepFacts.{greater_within_limit, merge_of_greater, next_within_limit}
use Rattle.hlc_packed.proofs.packed_bits.PackedBits.merge.Goals as goal

pub returns-clause-least : goal.returns-clause-least
returns-clause-least c = merge_of_greater _ _ _ _ _ (omega (arith, c.in-Some.ensures))

pub returns-clause-within_limit : goal.returns-clause-within_limit
returns-clause-within_limit c =
    greater_within_limit c.args.self.bits c.args.reading (max c.args.old c.args.message + 1) c.max.result c.args.limit
    (omega (arith, c.in-Some.ensures))
    (next_within_limit c.args.self.bits c.args.reading c.args.old c.args.message c.args.limit
    (λ far. let no = c.if-is_next_too_far.ensures.1 far in cc) (λ far. let no = c.if-is_next_too_far-2.ensures.1 far in cc))
