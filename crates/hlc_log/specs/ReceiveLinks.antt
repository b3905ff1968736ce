-- Links from messages to the events that receive them.
use Rattle.std.specs.Prelude.{◌≡◌, ℕ, ◌+◌, ◌<◌, ◌≤◌, Option, Some, None, List, length}
use Rattle.hlc_stamp.specs.declared.id.EventId.{EventId}
use Rattle.hlc_log.specs.declared.log_event.LogEvent.{LogEvent}
use Rattle.hlc_log.specs.Messages.{Receives}
use Rattle.hlc_log.specs.SendLinks.{link_at}

-- g is the first event from low on that receives message m
pub record IsFirstReceive (events : List LogEvent) (low m g : ℕ) : Type 0 where
  pub from : low ≤ g
  pub receives : Receives events g m
  pub first : (f : ℕ) → low ≤ f → f < g → ¬ Receives events f m

-- a link to that event, or to none if there is none
abbrev pub LinksToReceive : List LogEvent → ℕ → ℕ → Option EventId → Type 0
LinksToReceive events low m None = (f : ℕ) → low ≤ f → ¬ Receives events f m
LinksToReceive events low m (Some g) = IsFirstReceive events low m g.0

-- from low on, each message has a link to the first event that receives it, and each of these events one to the next of its message
pub record AreReceivesLinked (events : List LogEvent) (low : ℕ) (firsts next : List (Option EventId)) : Type 0 where
  pub len : length next ≡ length events
  pub each_first : (m : ℕ) → m < length firsts → LinksToReceive events low m (link_at firsts m)
  pub each_next : (e m : ℕ) → low ≤ e → Receives events e m → LinksToReceive events (e + 1) m (link_at next e)
