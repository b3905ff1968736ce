-- Which events of a log send and receive a message.
use Rattle.std.specs.Prelude.{◌≡◌, ℕ, ◌<◌, List, length}
use Rattle.hlc_log.specs.declared.log_event.LogEvent.{LogEvent}
use Rattle.hlc_log.specs.declared.log_event.LogKind.TheVariants.{Receive, Send}
use Rattle.hlc_log.specs.Events.{event_at}

-- the event at e sends message m
pub record Sends (events : List LogEvent) (e m : ℕ) : Type 0 where
  pub exists : e < length events
  pub kind : (event_at events e).kind ≡ Send (record { 0 = m })

-- the event at f receives message m
pub record Receives (events : List LogEvent) (f m : ℕ) : Type 0 where
  pub exists : f < length events
  pub kind : (event_at events f).kind ≡ Receive (record { 0 = m })

-- e sends what f receives
abbrev pub SendsTo : List LogEvent → ℕ → ℕ → Type 0
SendsTo events e f = (m : ℕ) × Sends events e m × Receives events f m

-- d and e, of which d is the earlier, both send message m
pub record AreBothSends (events : List LogEvent) (d e m : ℕ) : Type 0 where
  pub earlier : d < e
  pub first : Sends events d m
  pub second : Sends events e m

-- e sends a message that an earlier event sends
abbrev pub SendsAgain : List LogEvent → ℕ → Type 0
SendsAgain events e = (d : ℕ) × (m : ℕ) × AreBothSends events d e m

-- nobody sends message m
abbrev pub HasNoSend : List LogEvent → ℕ → Type 0
HasNoSend events m = (e : ℕ) → ¬ Sends events e m

-- f receives a message that nobody sends
abbrev pub ReceivesUnsent : List LogEvent → ℕ → Type 0
ReceivesUnsent events f = (m : ℕ) × Receives events f m × HasNoSend events m

-- no message is sent twice
abbrev pub EachIsSentOnce : List LogEvent → Type 0
EachIsSentOnce events = (e : ℕ) → ¬ SendsAgain events e

-- no message is sent twice, and each that is received is sent
pub record AreMessagesSound (events : List LogEvent) : Type 0 where
  pub once : EachIsSentOnce events
  pub sent : (f : ℕ) → ¬ ReceivesUnsent events f
