-- How many messages a log tells of.
use Rattle.std.specs.Prelude.{◌==◌, ◌&&◌, ℕ, ◌+◌, ◌<◌, ◌^◌, Bool, true, false, count_by, if◌then◌else◌, length, nat_le}
use Rattle.hlc_causality.specs.Neighbours.{deliveries_of}
use Rattle.hlc_causality.specs.Places.{places_below}
use Rattle.hlc_log.specs.declared.log_event.LogKind.{LogKind}
use Rattle.hlc_log.specs.declared.log_event.LogKind.TheVariants as kind
use Rattle.hlc_ordered_log.specs.declared.messages.MessageCounts.{MessageCounts}
use Rattle.hlc_ordered_log.specs.InOrder.{LogInOrder, event_in_order, skeleton_of}

-- whether something was sent, or received
abbrev pub is_sent : LogKind → Bool
is_sent (kind.Send m) = true
is_sent _ = false

abbrev pub is_received : LogKind → Bool
is_received (kind.Receive m) = true
is_received _ = false

-- what the event at k is, and how many events receive what it sends
abbrev pub kind_in : LogInOrder → ℕ → LogKind
kind_in log k = (event_in_order log.events log.order k).kind

abbrev pub receives_in : LogInOrder → ℕ → ℕ
receives_in log k = length (deliveries_of (skeleton_of log) k)

-- how many of the first n events send, or receive, and how many of the messages sent are received more than once, or never
abbrev pub counts_before : LogInOrder → ℕ → MessageCounts
counts_before log n = record {
  sent = count_by (λ k. is_sent (kind_in log k)) (places_below n);
  received = count_by (λ k. is_received (kind_in log k)) (places_below n);
  repeated = count_by (λ k. is_sent (kind_in log k) && nat_le 2 (receives_in log k)) (places_below n);
  unreceived = count_by (λ k. is_sent (kind_in log k) && (receives_in log k == 0)) (places_below n);
}

-- how many messages the log tells of
abbrev pub message_counts : LogInOrder → MessageCounts
message_counts log = counts_before log (length log.events)

-- no message
abbrev pub no_messages : MessageCounts
no_messages = record { sent = 0; received = 0; repeated = 0; unreceived = 0 }

-- one event more may be counted
pub record CanCountEvent (counts : MessageCounts) : Type 0 where
  pub sent : counts.sent + 1 < 2 ^ 32
  pub received : counts.received + 1 < 2 ^ 32
  pub repeated : counts.repeated + 1 < 2 ^ 32
  pub unreceived : counts.unreceived + 1 < 2 ^ 32

-- 1 if it holds
abbrev pub if_so : Bool → ℕ
if_so holds = if holds then 1 else 0

-- the counts with one event more, whose message is received so often if it is a send
abbrev pub with_event : MessageCounts → LogKind → ℕ → MessageCounts
with_event counts what receives = record {
  sent = counts.sent + if_so (is_sent what);
  received = counts.received + if_so (is_received what);
  repeated = counts.repeated + if_so (is_sent what && nat_le 2 receives);
  unreceived = counts.unreceived + if_so (is_sent what && (receives == 0));
}
