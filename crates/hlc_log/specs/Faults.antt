-- Why the events of a log have no causal order.
use Rattle.std.specs.Prelude.{ℕ, ◌<◌, List}
use Rattle.hlc_log.specs.declared.log_event.LogEvent.{LogEvent}
use Rattle.hlc_log.specs.declared.order_fault.OrderFault.{OrderFault}
use Rattle.hlc_log.specs.declared.order_fault.OrderFault.TheVariants.{Cycle, Memory, SentTwice, Unsent}
use Rattle.hlc_log.specs.CausalOrder.{Waits}
use Rattle.hlc_log.specs.Messages.{AreMessagesSound, EachIsSentOnce, ReceivesUnsent, SendsAgain}
use Rattle.hlc_log.specs.Standing.{StandsBefore}

-- e is the first place with a property
pub record IsFirst (HasProperty : ℕ → Type 0) (e : ℕ) : Type 0 where
  pub has : HasProperty e
  pub first : (d : ℕ) → d < e → ¬ HasProperty d

-- so e is as events stand
pub record StandsFirst (events : List LogEvent) (HasProperty : ℕ → Type 0) (e : ℕ) : Type 0 where
  pub has : HasProperty e
  pub first : (d : ℕ) → StandsBefore events d e → ¬ HasProperty d

-- what a fault tells of a log: the first event that sends a message again; else, if there is none, the first that receives an unsent
-- one; else, as events stand, the first that waits
abbrev pub IsFaultOf : List LogEvent → OrderFault → Type 0
IsFaultOf events (SentTwice e) = IsFirst (SendsAgain events) e.0
IsFaultOf events (Unsent e) = EachIsSentOnce events × IsFirst (ReceivesUnsent events) e.0
IsFaultOf events (Cycle e) = AreMessagesSound events × StandsFirst events (Waits events) e.0
IsFaultOf events Memory = Unit {0}
