-- Events whose nodes and messages have numbers within the limits.
use Rattle.std.proofs.Common.{ℕ, ◌<◌, List, length, subst}
use Rattle.std.specs.Prelude.{All}
use Rattle.std.proofs.lemmas.List.Elements.{All-get_or}
use Rattle.hlc_log.specs.declared.log_event.LogEvent.{LogEvent}
use Rattle.hlc_log.specs.Events.{IsMessageBelow, IsNumbered, event_at, no_event}
use Rattle.hlc_log.specs.Messages.{Receives, Sends}

module _ (messages : ℕ) (events : List LogEvent) (numbered : All (IsNumbered messages) events) where
  pub numbered_at : (e : ℕ) → e < length events → IsNumbered messages (event_at events e)
  numbered_at e exists = All-get_or (IsNumbered messages) events e no_event exists numbered

  pub send_below : (e m : ℕ) → Sends events e m → m < messages
  send_below e m sends = subst (IsMessageBelow messages) sends.kind (numbered_at e sends.exists).message

  pub receive_below : (f m : ℕ) → Receives events f m → m < messages
  receive_below f m receives = subst (IsMessageBelow messages) receives.kind (numbered_at f receives.exists).message
