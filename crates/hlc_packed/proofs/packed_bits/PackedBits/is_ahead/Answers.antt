use Rattle.std.proofs.Common.{◌≡◌, ◌+◌, arith}
use Rattle.hlc_packed.proofs.StepFacts.{ahead_of_before, none_before_0}
use Rattle.hlc_packed.proofs.packed_bits.PackedBits.is_ahead.Goals as goal

pub returns-in-Some : goal.returns-in-Some
returns-in-Some c =
    let is = c.in-Some.ensures in
    let next : c.args.stamp ≡ c.in-Some.before + 1 = omega (arith, is) in
    let same = ahead_of_before c.args.self.bits c.args.old c.args.message c.args.reading c.in-Some.before c.args.stamp next in
    (λ yes. same.0 (c.is_allowed.ensures.0 yes), λ ahead. c.is_allowed.ensures.1 (same.1 ahead))

pub returns-in-None : goal.returns-in-None
returns-in-None c = (
  λ no. absurd (cc),
  λ ahead. absurd (none_before_0 c.args.self.bits c.args.old c.args.message c.args.reading c.args.stamp c.in-None.ensures ahead),
)
