-- Messages without names, told apart by the node that sent them, and by the stamp with which it did.
use Rattle.std.specs.Prelude.{◌≢◌, ◌==◌, ◌&&◌, ℕ, ◌+◌, Bool, true, false, List, [], ◌∷◌, Option, Some, None, if◌then◌else◌, option_map, position, slice_index_or}
use Rattle.std.specs.Map.{lookup}
use Rattle.hlc_stamp.specs.declared.id.NodeId.{NodeId}
use Rattle.hlc_stamp.specs.Order.{Pair}
use Rattle.hlc_log.specs.declared.log_event.LogEvent.{LogEvent}
use Rattle.hlc_log.specs.declared.log_event.LogKind.{LogKind}
use Rattle.hlc_log.specs.declared.log_event.LogKind.TheVariants.{Local, Outside, Receive, Restart, Send}
use Rattle.hlc_log.specs.declared.message_id.MessageId.{MessageId}
use Rattle.hlc_log.specs.declared.senders.SentAs.{SentAs}
use Rattle.hlc_log.specs.Events.{event_at, of_kind}

-- whether an event of a kind sends a message
abbrev pub sends_some : LogKind → Bool
sends_some (Send message) = true
sends_some _ = false

-- the message that it sends
abbrev pub sent_message : LogKind → MessageId
sent_message (Send message) = message
sent_message _ = record { 0 = 0 }

-- whether two stamps are the same
abbrev pub is_same_stamp : Pair → Pair → Bool
is_same_stamp p q = (p.l == q.l) && (p.c == q.c)

-- whether two sends are of the same node, with the same stamp
abbrev pub is_same_sent : SentAs → SentAs → Bool
is_same_sent a b = (a.node.0 == b.node.0) && is_same_stamp a.stamp b.stamp

-- whether an event is a send of a node with a stamp
abbrev pub is_sent_by : NodeId → Pair → LogEvent → Bool
is_sent_by node stamp event = sends_some event.kind && ((event.node.0 == node.0) && is_same_stamp event.stamp stamp)

-- the place of the first send of a node with a stamp, if it sends with that
abbrev pub first_sent : List LogEvent → NodeId → Pair → Option ℕ
first_sent events node stamp = position (is_sent_by node stamp) events

-- the node that the receive at a place names as the sender, if it names one that the log has
abbrev pub sender_at : List (Option NodeId) → ℕ → Option NodeId
sender_at senders place = slice_index_or senders place None

-- the message of an event of a kind, if it has one, is another one than this
abbrev pub HasOther : MessageId → LogKind → Type 0
HasOther unnamed Local = Unit {0}
HasOther unnamed (Send message) = message.0 ≢ unnamed.0
HasOther unnamed (Receive message) = message.0 ≢ unnamed.0
HasOther unnamed Restart = Unit {0}
HasOther unnamed Outside = Unit {0}

-- what receives this message, which came in from outside if it is none of the log's
abbrev pub receives_if : Option MessageId → LogKind
receives_if None = Outside
receives_if (Some message) = Receive message

-- what a receive becomes that names its sender, given the messages of sends, by the nodes and stamps of these
abbrev pub kind_received : List (SentAs × MessageId) → Option NodeId → Option Pair → LogKind
kind_received sent None carried = Outside
kind_received sent (Some node) None = Outside
kind_received sent (Some node) (Some stamp) = receives_if (lookup (is_same_sent (record { node = node; stamp = stamp })) sent)

-- messages without a name share the number of one, among so many messages
module _ (unnamed : MessageId) (messages : ℕ) where
  -- the message of the send at a place: one without a name gets a number of its own
  abbrev pub own_message : (place : ℕ) → MessageId → MessageId
  own_message place message = if message.0 == unnamed.0 then record { 0 = messages + place } else message

  -- the message that the event at a place sends
  abbrev pub message_sent_at : List LogEvent → (place : ℕ) → MessageId
  message_sent_at events place = own_message place (sent_message (event_at events place).kind)

  -- the message of the first send of a node with a stamp, if there is one
  abbrev pub message_sent_by : List LogEvent → NodeId → Pair → Option MessageId
  message_sent_by events node stamp = option_map (message_sent_at events) (first_sent events node stamp)

  -- what a receive becomes that names its sender: it receives what this node first sent with the stamp that the message carried
  abbrev pub received_from : List LogEvent → Option NodeId → Option Pair → LogKind
  received_from events None carried = Outside
  received_from events (Some node) None = Outside
  received_from events (Some node) (Some stamp) = receives_if (message_sent_by events node stamp)

  -- the nodes that receives name as senders, by the places of these
  module _ (senders : List (Option NodeId)) where
    -- what the event at a place becomes, by what it is
    abbrev pub apart_kind : List LogEvent → (place : ℕ) → Option Pair → LogKind → LogKind
    apart_kind events place carried Local = Local
    apart_kind events place carried (Send message) = Send (own_message place message)
    apart_kind events place carried (Receive message) =
        if message.0 == unnamed.0 then received_from events (sender_at senders place) carried else Receive message
    apart_kind events place carried Restart = Restart
    apart_kind events place carried Outside = Outside

    abbrev pub apart_event : List LogEvent → (place : ℕ) → LogEvent → LogEvent
    apart_event events place event = of_kind (apart_kind events place event.carried event.kind) event

    -- the rest of a log from a place on, with each event as it becomes
    abbrev pub apart_from : List LogEvent → (place : ℕ) → List LogEvent → List LogEvent
    apart_from events place [] = []
    apart_from events place (event ∷ rest) = apart_event events place event ∷ apart_from events (place + 1) rest

    -- a log with its messages told apart: each send without a named message has a number of its own, and each receive without one has that of
    -- what its sender first sent with the carried stamp, or comes from outside
    abbrev pub told_apart : List LogEvent → List LogEvent
    told_apart events = apart_from events 0 events
