-- What a watch keeps of a log, and which records are there, as its events come one after another.
use Rattle.std.specs.Prelude.{ℕ, List, [], Option, Some, None, replicate, slice_index_or, slice_set}
use Rattle.hlc_watch.specs.declared.message_role.MessageRole.{MessageRole}
use Rattle.hlc_watch.specs.declared.message_role.MessageRole.TheVariants.{Receive, Send}
use Rattle.hlc_watch.specs.declared.records.Claimed.{Claimed}
use Rattle.hlc_watch.specs.declared.records.Records.{Records}
use Rattle.hlc_watch.specs.declared.ruled_event.RuledEvent.{RuledEvent}
use Rattle.hlc_watch.specs.Kept.{KeptMessages, after_receive, after_send, no_messages, records_told, waited_for}
use Rattle.hlc_watch.specs.Records.{claimed_by}

-- what is kept of a log: by the numbers of nodes, what the records of their last events claim; and messages
pub record KeptLog : Type 0 where
  pub last : List (Option Claimed)
  pub messages : KeptMessages

-- nothing
abbrev pub no_log : ℕ → KeptLog
no_log keep = record { last = replicate 65536 None; messages = no_messages keep }

-- what the record of a node's last event claims
abbrev pub last_at : List (Option Claimed) → ℕ → Option Claimed
last_at last node = slice_index_or last node None

-- the records of an event that are there as it comes, but for its send
abbrev pub without_send : RuledEvent → (previous : Option Claimed) → Records
without_send event previous = record { event = event; previous = previous; send = None }

abbrev pub records_of : List (Option Claimed) → RuledEvent → Records
records_of last event = without_send event (last_at last event.node.0)

-- what is kept of messages, once such records have come, of an event that does this with the message of a name
abbrev pub after_role : KeptMessages → Records → MessageRole → (m : List ℕ) → KeptMessages
after_role kept records Send m = after_send kept m (claimed_by records.event)
after_role kept records Receive m = after_receive kept m records
after_role kept records _ m = kept

abbrev pub after_records : KeptMessages → Records → (m : List ℕ) → KeptMessages
after_records kept records m = after_role kept records records.event.role m

-- the event's records, unless it waits
abbrev pub event_told : KeptMessages → Records → MessageRole → (m : List ℕ) → Option Records
event_told kept records Receive m = records_told kept m records
event_told kept records _ m = Some records

-- the records of those that waited for it
abbrev pub waited_told : KeptMessages → Records → MessageRole → (m : List ℕ) → List Records
waited_told kept records Send m = waited_for kept m (claimed_by records.event)
waited_told kept records _ m = []

-- what is kept of a log, once an event has come, with the name of its message
abbrev pub after_event : KeptLog → RuledEvent → (m : List ℕ) → KeptLog
after_event kept event m = record {
  last = slice_set kept.last event.node.0 (Some (claimed_by event));
  messages = after_records kept.messages (records_of kept.last event) m;
}

-- which records are there then
abbrev pub event_of : KeptLog → RuledEvent → (m : List ℕ) → Option Records
event_of kept event m = event_told kept.messages (records_of kept.last event) event.role m

abbrev pub waited_of : KeptLog → RuledEvent → (m : List ℕ) → List Records
waited_of kept event m = waited_told kept.messages (records_of kept.last event) event.role m
