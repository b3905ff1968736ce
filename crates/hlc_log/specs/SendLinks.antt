-- Links from messages to their sends.
use Rattle.std.specs.Prelude.{◌≡◌, ℕ, ◌<◌, Option, Some, None, List, length, slice_index_or}
use Rattle.hlc_stamp.specs.declared.id.EventId.{EventId}
use Rattle.hlc_log.specs.declared.log_event.LogEvent.{LogEvent}
use Rattle.hlc_log.specs.Messages.{Sends}

-- the link that stands at a place
abbrev pub link_at : List (Option EventId) → ℕ → Option EventId
link_at links k = slice_index_or links k None

-- e is the only event before n that sends message m
pub record IsOnlySend (events : List LogEvent) (n m e : ℕ) : Type 0 where
  pub before : e < n
  pub sends : Sends events e m
  pub only : (d : ℕ) → d < n → Sends events d m → d ≡ e

-- the link leads to the only event before n that sends message m, or nowhere if there is none
abbrev pub LinksToSend : List LogEvent → ℕ → ℕ → Option EventId → Type 0
LinksToSend events n m None = (e : ℕ) → e < n → ¬ Sends events e m
LinksToSend events n m (Some e) = IsOnlySend events n m e.0

-- so it does for each message
abbrev pub AreSendLinks : List LogEvent → ℕ → List (Option EventId) → Type 0
AreSendLinks events n links = (m : ℕ) → m < length links → LinksToSend events n m (link_at links m)
