use Rattle.std.proofs.Common.{inl, inr, refl}
use Rattle.hlc_text.proofs.text_fault.TextFaultFromClusterFault.from.Goals as goal

pub returns-in-BadNodes : goal.returns-in-BadNodes
returns-in-BadNodes c = elim c.in-BadNodes.is [
  | inl nodes ↦ rw nodes refl
  | inr capacity ↦ rw capacity refl
]
