-- The messages that didn't arrive, each once.
use Rattle.std.specs.Prelude.{Bool, ℕ, ◌+◌, ◌-◌, ◌^◌, ◌==◌, ◌&&◌, List, [], Option, Some, None, fold, length, min}
use Rattle.std.specs.Map.{lookup, values_of}
use Rattle.indexmap.specs.IndexMap.{insert_entry}
use Rattle.hlc_diagram.specs.declared.failed.Failed.{Failed}
use Rattle.hlc_diagram.specs.declared.failed.Message.{Message}
use Rattle.hlc_diagram.specs.declared.undelivered.Undelivered.{Undelivered}

-- the message that failed to arrive: its send, and the node that it was for
abbrev pub message_of : Undelivered → Message
message_of m = record { send = m.send; to = m.to }

abbrev pub is_same_message : Message → Message → Bool
is_same_message a b = (a.send.0 == b.send.0) && (a.to.0 == b.to.0)

-- a message that fails to arrive for the first time, after so many others; or once more
abbrev pub with_failure : Option Failed → (place : ℕ) → Undelivered → Failed
with_failure None place m = record { first = m; times = 1; place = place }
with_failure (Some f) place m = record f { times = min (f.times + 1) (2 ^ 64 - 1) }

-- messages, with one that fails to arrive: it takes the last place, unless it failed before
unfoldable pub add_failure : List (Message × Failed) → Undelivered → List (Message × Failed)
add_failure failed m =
    insert_entry is_same_message failed (message_of m) (with_failure (lookup (is_same_message (message_of m)) failed) (length failed) m)

abbrev pub messages_in : List Undelivered → List (Message × Failed)
messages_in undelivered = fold add_failure [] undelivered

-- the messages among these, each once, in the order in which they first failed to arrive
abbrev pub failed_in : List Undelivered → List Failed
failed_in undelivered = values_of (messages_in undelivered)
