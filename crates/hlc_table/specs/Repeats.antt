-- Messages that are delivered again.
use Rattle.std.specs.Prelude.{◌≡◌, ℕ, ◌<◌, Some, List}
use Rattle.hlc_causality.specs.Causality.{IsSendOf}
use Rattle.hlc_arena.specs.History.{EventKind, StampedEvent, causality_of, delivered_send}

-- an event of this kind, at place e, delivers a message that an event before it delivered
pub record IsRepeat (events : List StampedEvent) (e : ℕ) (kind : EventKind) : Type 0 where
  pub sent : ℕ
  pub first : ℕ
  pub delivers : delivered_send kind ≡ Some sent
  pub delivered : IsSendOf (causality_of events) sent first
  pub earlier : first < e
