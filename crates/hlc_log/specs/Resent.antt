-- Messages that are sent again.
use Rattle.std.specs.Prelude.{◌≡◌, ◌==◌, ◌&&◌, ℕ, zero, suc, ◌+◌, ◌<◌, Bool, false, List, Option, Some, None, if◌then◌else◌, length, map, not, slice_set}
use Rattle.std.specs.List.{range_with_len}
use Rattle.std.specs.Map.{lookup}
use Rattle.std.specs.Option.{option_or}
use Rattle.hlc_stamp.specs.declared.id.EventId.{EventId}
use Rattle.hlc_stamp.specs.Order.{Pair}
use Rattle.hlc_log.specs.declared.log_event.LogEvent.{LogEvent}
use Rattle.hlc_log.specs.declared.log_event.LogKind.{LogKind}
use Rattle.hlc_log.specs.declared.log_event.LogKind.TheVariants.{Local, Outside, Receive, Restart, Send}
use Rattle.hlc_log.specs.declared.message_id.MessageId.{MessageId}
use Rattle.hlc_log.specs.declared.resent.Resent.{Resent}
use Rattle.hlc_log.specs.declared.resent.Resent.TheVariants.{First, Last}
use Rattle.hlc_log.specs.declared.resent.SentWith.{SentWith}
use Rattle.hlc_log.specs.Events.{event_at, of_kind}
use Rattle.hlc_log.specs.SendLinks.{link_at}
use Rattle.hlc_log.specs.Senders.{is_same_stamp}
use Rattle.hlc_log.specs.Unsent.{is_send}

-- whether an event sends message m, and whether it sends that with a stamp
abbrev pub sends : (m : ℕ) → LogEvent → Bool
sends m event = is_send m event.kind

abbrev pub sends_with : (m : ℕ) → Pair → LogEvent → Bool
sends_with m stamp event = is_send m event.kind && is_same_stamp event.stamp stamp

-- the events of a log that pass a test
module _ (passes : LogEvent → Bool) (events : List LogEvent) where
  abbrev pub passing_at : ℕ → Option EventId
  passing_at place = if passes (event_at events place) then Some (record { 0 = place }) else None

  -- the first of them before a place, and the latest
  abbrev pub first_before : (place : ℕ) → Option EventId
  first_before zero = None
  first_before (suc n) = option_or (first_before n) (passing_at n)

  abbrev pub latest_before : (place : ℕ) → Option EventId
  latest_before zero = None
  latest_before (suc n) = option_or (passing_at n) (latest_before n)

-- whether an event is the one at a place
abbrev pub is_at : (place : ℕ) → Option EventId → Bool
is_at place None = false
is_at place (Some event) = event.0 == place

-- the message of the send at a place, given the first send of its message: that one keeps its message, and each later one has one of its own
abbrev pub own_unless_first : (messages : ℕ) → Option EventId → (place : ℕ) → MessageId → MessageId
own_unless_first messages first place message = if is_at place first then message else record { 0 = messages + place }

-- and the message of a receive, by the send that it is of, if there is one
abbrev pub message_by : (messages : ℕ) → Option EventId → MessageId → Option EventId → MessageId
message_by messages first message None = message
message_by messages first message (Some send) = own_unless_first messages first send.0 message

module _ (events : List LogEvent) where
  -- the first send of message m
  abbrev pub first_send : (m : ℕ) → Option EventId
  first_send m = first_before (sends m) events (length events)

  -- whether an event of a kind at a place sends a message that an earlier event sends
  abbrev pub sends_again : (place : ℕ) → LogKind → Bool
  sends_again place (Send message) = not (is_at place (first_send message.0))
  sends_again place _ = false

  abbrev pub is_resent : (place : ℕ) → Bool
  is_resent place = sends_again place (event_at events place).kind

  -- how many events before a place do
  abbrev pub resent_before : (place : ℕ) → ℕ
  resent_before zero = 0
  resent_before (suc n) = resent_before n + (if is_resent n then 1 else 0)

  -- the first send of message m with the stamp that a receive of it tells, if it tells one
  abbrev pub claimed_send : (m : ℕ) → Option Pair → Option EventId
  claimed_send m None = None
  claimed_send m (Some stamp) = first_before (sends_with m stamp) events (length events)

  -- the send of message m that a receive at a place is of, as it is asked: the first, or the latest before the receive, or else the first
  abbrev pub asked_send : Resent → (m place : ℕ) → Option EventId
  asked_send First m place = first_send m
  asked_send Last m place = option_or (latest_before (sends m) events place) (first_send m)

  -- the send of message m that a receive at a place is of: one with the stamp that the message carried, or else the one that is asked for
  abbrev pub send_of : Resent → (m place : ℕ) → Option Pair → Option EventId
  send_of resent m place carried = option_or (claimed_send m carried) (asked_send resent m place)

  -- messages have numbers below so many
  module _ (messages : ℕ) where
    -- what the event at a place becomes, by what it is
    abbrev pub resent_kind : Resent → (place : ℕ) → Option Pair → LogKind → LogKind
    resent_kind resent place carried Local = Local
    resent_kind resent place carried (Send message) = Send (own_unless_first messages (first_send message.0) place message)
    resent_kind resent place carried (Receive message) = Receive (message_by messages (first_send message.0) message (send_of resent message.0 place carried))
    resent_kind resent place carried Restart = Restart
    resent_kind resent place carried Outside = Outside

    abbrev pub resent_event : Resent → (place : ℕ) → LogEvent → LogEvent
    resent_event resent place event = of_kind (resent_kind resent place event.carried event.kind) event

-- a log in which no message is sent again: each send of a message but the first has a message of its own, and each receive has that of the send that it
-- is of
abbrev pub with_resent : Resent → (messages : ℕ) → List LogEvent → List LogEvent
with_resent resent messages events =
    map (λ place. resent_event events messages resent place (event_at events place)) (range_with_len 0 (length events))

-- how many events of a log send a message that an earlier event sends
abbrev pub resent_count : List LogEvent → ℕ
resent_count events = resent_before events (length events)

-- a link from each message to its first send before a place
abbrev pub AreFirstSends : List LogEvent → (place : ℕ) → List (Option EventId) → Type 0
AreFirstSends events place links = (m : ℕ) → m < length links → link_at links m ≡ first_before (sends m) events place

-- and to the send that a receive at a place would be of, as it is asked
abbrev pub AreAskedSends : List LogEvent → Resent → (place : ℕ) → List (Option EventId) → Type 0
AreAskedSends events resent place links = (m : ℕ) → m < length links → link_at links m ≡ asked_send events resent m place

-- the same links, when a send of message m is at the place before
abbrev pub asked_after : Resent → List (Option EventId) → (m place : ℕ) → List (Option EventId)
asked_after First links m place = links
asked_after Last links m place = slice_set links m (Some (record { 0 = place }))

-- whether two sends are of the same message, with the same stamp
abbrev pub is_same_sent_with : SentWith → SentWith → Bool
is_same_sent_with a b = (a.message.0 == b.message.0) && is_same_stamp a.stamp b.stamp

-- the send of a message with the stamp that a receive of it tells, if it tells one, given the sends by their messages and stamps
abbrev pub claimed_in : List (SentWith × EventId) → MessageId → Option Pair → Option EventId
claimed_in sent message None = None
claimed_in sent message (Some stamp) = lookup (is_same_sent_with (record { message = message; stamp = stamp })) sent
