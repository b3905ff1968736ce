-- The answer to a statement: a step.
use Rattle.std.specs.Prelude.{◌≡◌, ℕ, List, [], ◌∷◌, ◌++◌, length, Result, Ok, Err, bytes_eq, codes, count_by, decimal, if◌then◌else◌}
use Rattle.hlc_stamp.specs.Order.{Pair}
use Rattle.hlc_causality.specs.Assignment.{pair_at}
use Rattle.hlc_arena.specs.History.{stamps_of}
use Rattle.hlc_arena.specs.ClockRule.{HasLeastStamps}
use Rattle.hlc_core.specs.State.{State, is_live}
use Rattle.hlc_core.specs.Step.{EndsMessage, IsAnswered, accept, with_lost}
use Rattle.hlc_core.specs.declared.accepted.Accepted.{Accepted}
use Rattle.hlc_pool.specs.declared.no_message.NoMessage.{NoMessage as NoLiveMessage}
use Rattle.hlc_core.specs.Request.{Request}
use Rattle.hlc_core.specs.declared.refusal.Refusal.{Refusal}
use Rattle.hlc_core.specs.declared.refusal.Refusal.TheVariants.{NoMessage}
use Rattle.hlc_csv.specs.Rows.{Fields, field_of, refusal_row}
use Rattle.hlc_text.specs.Questions.{rows_for}
use Rattle.hlc_text.specs.Words.{refusal_word}
use Rattle.hlc_text.specs.Statement.{Act, Ask, Lose, Statement}

-- the rows that answer a statement or a record, and the state after it
pub record Answer : Type 0 where
  pub rows : List Fields
  pub state : State

-- a refused record changes nothing, and one row tells why
abbrev pub refusal_answer : State → List ℕ → Answer
refusal_answer s word = record { rows = refusal_row word ∷ []; state = s }

-- the row of a new event: its place in the history, and its stamp
abbrev pub event_row : ℕ → Pair → Fields
event_row event stamp = codes "event" ∷ decimal event ∷ decimal stamp.l ∷ decimal stamp.c ∷ []

-- the answer to a request: the new event, or the refusal
abbrev pub step_answer : Pair → State → Result State Refusal → Answer
step_answer stamp s (Ok new) = record { rows = event_row (length s.history.events) stamp ∷ []; state = new }
step_answer stamp s (Err refusal) = refusal_answer s (refusal_word refusal)

-- the row of a message that was lost
abbrev pub lost_row : ℕ → Fields
lost_row sent = codes "lost" ∷ decimal sent ∷ []

-- the answer to the loss of a message: a live one ends
abbrev pub loss_answer : State → ℕ → Answer
loss_answer s sent = if is_live s sent then record { rows = lost_row sent ∷ []; state = with_lost s sent } else refusal_answer s (refusal_word NoMessage)

-- the answer to a statement, whose event, if it makes one, gets this stamp; a question changes nothing
abbrev pub statement_answer : Pair → State → Statement → Answer
statement_answer stamp s (Act node reading request) = step_answer stamp s (accept s node reading request stamp)
statement_answer stamp s (Lose sent) = loss_answer s sent
statement_answer stamp s (Ask question) = record { rows = rows_for s question; state = s }

-- how many rows begin with `refused`
abbrev pub refusals_in : List Fields → ℕ
refusals_in rows = count_by (λ answer. bytes_eq (field_of answer 0) (codes "refused")) rows

-- rows and a new state are this answer, in which a new event has the stamp that it got, whatever stamps come later
pub record Gives (answer : Pair → Answer) (old new : State) (rows : List Fields) : Type 0 where
  pub gives : (later : List Pair) → answer (pair_at (stamps_of new.history.events ++ later) (length old.history.events)) ≡ record { rows = rows; state = new }
  pub added : List Pair
  pub grows : stamps_of new.history.events ≡ stamps_of old.history.events ++ added
  pub least : HasLeastStamps old.history.events → HasLeastStamps new.history.events

-- they answer this statement
abbrev pub RowsAnswer : Statement → (old new : State) → List Fields → Type 0
RowsAnswer statement old new rows = Gives (λ stamp. statement_answer stamp old statement) old new rows

-- rows tell what came of a request, of whatever cluster it was asked
abbrev pub TellRequest : Result Accepted Refusal → List Fields → Type 0
TellRequest asked rows = (old new : State) (node reading : ℕ) (request : Request) → IsAnswered old node reading request asked new →
    HasLeastStamps new.history.events → RowsAnswer (Act node reading request) old new rows

-- and of the loss of a message
abbrev pub TellLoss : ℕ → Result (Unit {0}) NoLiveMessage → List Fields → Type 0
TellLoss sent ended rows = (old new : State) → EndsMessage old sent ended new → RowsAnswer (Lose sent) old new rows
