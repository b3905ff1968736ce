use Rattle.std.proofs.Common.{refl, ap}
use Rattle.hlc_arena.specs.Kinds.{event_kind_of}
use Rattle.hlc_held.proofs.agreement.is_any_delivery.Goals as goal

pub returns-in-Deliver : goal.returns-in-Deliver
returns-in-Deliver c = (λ t. (c.in-Deliver.sent.0, ap event_kind_of c.in-Deliver.is), λ is. refl)
