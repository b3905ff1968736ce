use Rattle.std.proofs.Common.{◌≡◌, ◌-◌, ◌%◌, ◌^◌, ap, arith}
use Rattle.hlc_stamp.specs.Order.{Pair}
use Rattle.hlc_packed.proofs.StepFacts.{l_after_full, l_has_next}
use Rattle.hlc_packed.proofs.packed_bits.PackedBits.next_l.Goals as goal

pub overflow_add-result : goal.overflow_add-result
overflow_add-result c =
    let its_l = ap (λ (p : Pair). p.l) c.unpack-l.ensures in
    let room = l_has_next c.args.self.bits c.args.number c.args.self.in_range.0 c.ranges.number.fits in
    omega arith

pub returns-then-c-full : goal.returns-then-c-full
returns-then-c-full c =
    let its_l = ap (λ (p : Pair). p.l) c.unpack-l.ensures in
    let its_c = ap (λ (p : Pair). p.c) c.unpack-l.ensures in
    let full : c.args.number % 2 ^ c.args.self.bits ≡ 2 ^ c.args.self.bits - 1 = omega arith in
    let next = l_after_full c.args.self.bits c.args.number full in
    omega arith
