-- The messages that a script doesn't bring to their nodes.
use Rattle.std.specs.Prelude.{Bool, ℕ, List, [], ◌∷◌, ◌++◌, length, Option, Some, None, Result, Ok, Err, Vec, if◌then◌else◌, option_map, slice_get}
use Rattle.std.specs.List.{cons_option}
use Rattle.std.specs.Option.{option_and_then}
use Rattle.std.specs.declared.alloc.Global.{Global}
use Rattle.hlc_stamp.specs.Order.{Pair}
use Rattle.hlc_arena.specs.History.{StampedEvent, target_of}
use Rattle.hlc_core.specs.State.{State, is_live}
use Rattle.hlc_core.specs.Step.{refusal_of}
use Rattle.hlc_core.specs.declared.accepted.Accepted.{Accepted}
use Rattle.hlc_csv.specs.Rows.{Fields}
use Rattle.hlc_pool.specs.declared.no_message.NoMessage.{NoMessage}
use Rattle.hlc_csv.specs.declared.bad_record.BadRecord.{BadRecord}
use Rattle.hlc_core.specs.Request.{Request, ToDeliver}
use Rattle.hlc_core.specs.declared.refusal.Refusal.{Refusal}
use Rattle.hlc_core.specs.declared.refusal.Refusal.TheVariants.{TooFarAhead}
use Rattle.hlc_text.specs.Statement.{Act, Ask, Lose, Statement, statement_of}
use Rattle.hlc_text.specs.Script.{answer_of}
use Rattle.hlc_text.specs.declared.undelivered.Undelivered.{Undelivered}

-- the message of a send that doesn't come to a node, when so many events have happened
abbrev pub undelivered_at : State → (sent to : ℕ) → Undelivered
undelivered_at s sent to = record { send = record { 0 = sent }; to = record { 0 = to }; before = record { 0 = length s.history.events } }

-- a delivery that is refused for being too far ahead holds its message back
abbrev pub held_back : State → ℕ → Request → Option Refusal → Option Undelivered
held_back s node (ToDeliver sent) (Some TooFarAhead) = Some (undelivered_at s sent node)
held_back s node request refusal = None

-- the node that an event sends to
abbrev pub target_in : List StampedEvent → ℕ → Option ℕ
target_in events sent = option_and_then (λ x. target_of x.event.kind) (slice_get events sent)

-- the message of an event, if it is a send
abbrev pub message_in : State → ℕ → Option Undelivered
message_in s sent = option_map (undelivered_at s sent) (target_in s.history.events sent)

-- what a statement leaves undelivered
abbrev pub undelivered_by : State → Statement → Option Undelivered
undelivered_by s (Act node reading request) = held_back s node request (refusal_of s node reading request)
undelivered_by s (Lose sent) = if is_live s sent then message_in s sent else None
undelivered_by s (Ask question) = None

abbrev pub undelivered_by_read : State → Result Statement BadRecord → Option Undelivered
undelivered_by_read s (Ok statement) = undelivered_by s statement
undelivered_by_read s (Err bad) = None

-- what records leave undelivered, in turn, given the stamps of the events by their places
unfoldable pub undelivered_in : List Pair → State → List Fields → List Undelivered
undelivered_in stamps s [] = []
undelivered_in stamps s (r ∷ rs) = cons_option (undelivered_by_read s (statement_of r)) (undelivered_in stamps (answer_of stamps s r).state rs)

-- what was lost with the message of a send, by what came of its loss
abbrev pub message_lost : State → ℕ → Result (Unit {0}) NoMessage → Option Undelivered
message_lost s sent (Ok _) = message_in s sent
message_lost s sent (Err _) = None

-- the refusal of a request, if it was refused
abbrev pub refusal_in : Result Accepted Refusal → Option Refusal
refusal_in (Ok accepted) = None
refusal_in (Err refusal) = Some refusal

-- these notes, if any are kept
abbrev pub notes_if : Bool → List Undelivered → Option (List Undelivered)
notes_if notes list = if notes then Some list else None

-- what is noted, if notes are kept; and with one more message, if there is one
abbrev pub noted : Option (Vec Undelivered Global) → Option (List Undelivered)
noted notes = option_map (λ list. list.items) notes

abbrev pub note_more : Option (List Undelivered) → Option Undelivered → Option (List Undelivered)
note_more notes message = option_map (λ list. list ++ cons_option message []) notes
