-- The rows that answer questions, by the definitions.
use Rattle.std.specs.Prelude.{ℕ, List, [], ◌∷◌, ◌++◌, length, map, Option, Some, None, codes, decimal, if◌then◌else◌, min, nat_lt}
use Rattle.hlc_stamp.specs.Order.{Pair}
use Rattle.hlc_causality.specs.ClockEvents.{ticking}
use Rattle.hlc_arena.specs.History.{StampedEvent, causality_of, event_at, stamps_of}
use Rattle.hlc_arena.specs.Known.{value_of}
use Rattle.hlc_explain.specs.Findings.{node_drift}
use Rattle.hlc_table.specs.Snapshot.{snapshot_rows}
use Rattle.hlc_explain.specs.declared.answers.Drift.{Drift}
use Rattle.hlc_explain.specs.Answer.{Answer, answer_of, answer_row, drift_answer}
use Rattle.hlc_explain.specs.EventQuestion.{Check, EventQuestion, Explain, Influenced, Relation, Tainted, Why, can_be_asked, question_word}
use Rattle.hlc_core.specs.State.{State, inbox_of}
use Rattle.hlc_core.specs.Step.{entry_in}
use Rattle.hlc_table.specs.Tables.{table_row, table_rows}
use Rattle.hlc_table.specs.Rows.{Row}
use Rattle.hlc_table.specs.declared.entry.Entry.{Entry}
use Rattle.hlc_core.specs.declared.refusal.Refusal.TheVariants as refusal
use Rattle.hlc_verdict.specs.declared.audit_fault.AuditFault.TheVariants as fault
use Rattle.hlc_csv.specs.Number.{greatest_event}
use Rattle.hlc_csv.specs.Rows.{Fields, refusal_row}
use Rattle.hlc_text.specs.Words.{audit_word, refusal_word}
use Rattle.hlc_text.specs.Statement as asked
use Rattle.hlc_text.specs.Statement.{Question}

-- the row of a node's inbox: the events of the sends, in order
abbrev pub inbox_row : ℕ → List ℕ → Fields
inbox_row node inbox = codes "inbox" ∷ decimal node ∷ map decimal inbox

-- fields with the value after them, or without one
abbrev pub row_with : Option (List ℕ) → Fields → Fields
row_with (Some value) fields = codes "entry" ∷ (fields ++ value ∷ [])
row_with None fields = codes "gone" ∷ fields

-- the row of a key's entry: the key, the rank of the write, its event, and its value, unless it erased
abbrev pub entry_row : List StampedEvent → List ℕ → Entry → Fields
entry_row events key entry =
    row_with (value_of (event_at events entry.write.0).kind)
    (key ∷ decimal entry.rank.stamp.l ∷ decimal entry.rank.stamp.c ∷ decimal entry.rank.node.0 ∷ decimal entry.write.0 ∷ [])

-- the row of a row of a table
abbrev pub table_entry_row : List StampedEvent → Row → Fields
table_entry_row events row = entry_row events row.key row.entry

-- the row of a key: that of its entry, if it has one
abbrev pub key_row : List StampedEvent → List ℕ → Option ℕ → Fields
key_row events key None = codes "none" ∷ key ∷ []
key_row events key (Some write) = table_entry_row events (table_row events (key, write))

-- the row of what is found: a word, the numbers of what was asked about, and those of the events that are found
abbrev pub told_row : (word asked : List ℕ) → Answer → Fields
told_row word asked found = answer_row word (map decimal asked) (map decimal found.events) found

-- what is found of the events of a history, each of which ticks from its reading on
abbrev pub found_in : List StampedEvent → EventQuestion → Answer
found_in events question = answer_of (causality_of events) (ticking (causality_of events)) (stamps_of events) question

-- the rows of a table, after a word: how many keys it has, and the row of each
abbrev pub table_answer : List ℕ → List StampedEvent → ℕ → List Row → List Fields
table_answer word events node rows = (word ∷ decimal node ∷ decimal (length rows) ∷ []) ∷ map (table_entry_row events) rows

-- the rows of a node's table, and those of its snapshot at a stamp
abbrev pub rows_of_table : List StampedEvent → ℕ → List Row → List Fields
rows_of_table events node rows = table_answer (codes "table") events node rows

abbrev pub rows_of_snapshot : List StampedEvent → Pair → ℕ → List Fields
rows_of_snapshot events stamp node = table_answer (codes "snapshot") events node (snapshot_rows events stamp node)

-- the row of a node's drift
abbrev pub drift_row : ℕ → Option Drift → Fields
drift_row node drift = told_row (codes "drift") (node ∷ []) (drift_answer drift)

-- these rows, if there is such a node
abbrev pub if_node : State → ℕ → List Fields → List Fields
if_node s node rows = if nat_lt node s.history.nodes then rows else refusal_row (refusal_word refusal.NoNode) ∷ []

-- the rows that answer a question about events, which names these by such numbers, if those exist that have to
abbrev pub rows_about : State → (asked : List ℕ) → EventQuestion → List Fields
rows_about s asked question =
    if can_be_asked (length s.history.events) question then told_row (question_word question) asked (found_in s.history.events question) ∷ []
    else refusal_row (audit_word fault.NoEvent) ∷ []

-- the rows that answer a question
abbrev pub rows_for : State → Question → List Fields
rows_for s (asked.Inbox node) = if_node s node (inbox_row node (inbox_of s node) ∷ [])
rows_for s (asked.Get node key) = if_node s node (key_row s.history.events key (entry_in s node key) ∷ [])
rows_for s (asked.Table node) = if_node s node (rows_of_table s.history.events node (table_rows s.history.events node))
rows_for s (asked.Explain event) = rows_about s (event ∷ []) (Explain event)
rows_for s (asked.Check number events) = rows_about s (number ∷ []) (Check (min number greatest_event) events)
rows_for s (asked.Relation first second) = rows_about s (first ∷ second ∷ []) (Relation first second)
rows_for s (asked.Influenced event) = rows_about s (event ∷ []) (Influenced event)
rows_for s (asked.Why first second) = rows_about s (first ∷ second ∷ []) (Why first second)
rows_for s (asked.Tainted event) = rows_about s (event ∷ []) (Tainted event)
rows_for s (asked.Drift node) =
    if_node s node (drift_row node (node_drift (causality_of s.history.events) (stamps_of s.history.events) node) ∷ [])
rows_for s (asked.Snapshot cut node) = if_node s node (rows_of_snapshot s.history.events cut node)
