use Rattle.std.proofs.Common.{◌^◌}
use Rattle.std.proofs.lemmas.Nat.{pow_pos}
use Rattle.hlc_packed.proofs.PackedOrder.{quotient_order}
use Rattle.hlc_packed.proofs.laws.packing_is_faithful.Goals as goal

pub returns-clause-order : goal.returns-clause-order
returns-clause-order c bits m n = quotient_order (2 ^ bits) m n (pow_pos bits)
