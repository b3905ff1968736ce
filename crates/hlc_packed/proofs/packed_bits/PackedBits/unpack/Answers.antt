use Rattle.std.proofs.lemmas.Nat.{and_mask}
use Rattle.hlc_packed.proofs.packed_bits.PackedBits.unpack.Goals as goal

pub returns : goal.returns
returns c = rw (c.span.ensures.value, and_mask)
