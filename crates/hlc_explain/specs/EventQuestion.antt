-- What may be asked about events.
use Rattle.std.specs.Prelude.{Bool, true, ◌&&◌, ℕ, List, [], ◌∷◌, codes, nat_lt}
use Rattle.hlc_stamp.specs.Ids.{places_of}
use Rattle.hlc_explain.specs.declared.event_question.EventQuestion.{EventQuestion as ProgramQuestion}
use Rattle.hlc_explain.specs.declared.event_question.EventQuestion.TheVariants as question

-- what forces the stamp of an event, or whether a list of events does; how two events stand in happened-before; which events one
-- happened before; how the second of two came to know of the first; and which stamps the floor of an event raised
pub data EventQuestion : Type 0 where
  Explain : (event : ℕ) → EventQuestion
  Check : (event : ℕ) (chain : List ℕ) → EventQuestion
  Relation : (first second : ℕ) → EventQuestion
  Influenced : (event : ℕ) → EventQuestion
  Why : (first second : ℕ) → EventQuestion
  Tainted : (event : ℕ) → EventQuestion

-- a question of the program, without where its list lies
abbrev pub plain_question : ProgramQuestion → EventQuestion
plain_question (question.Explain event) = Explain event.0
plain_question (question.Check event chain) = Check event.0 (places_of chain.now)
plain_question (question.Relation first second) = Relation first.0 second.0
plain_question (question.Influenced event) = Influenced event.0
plain_question (question.Why first second) = Why first.0 second.0
plain_question (question.Tainted event) = Tainted event.0

-- the word with which the row begins that answers it
abbrev pub question_word : EventQuestion → List ℕ
question_word (Explain event) = codes "chain"
question_word (Check event chain) = codes "check"
question_word (Relation first second) = codes "relation"
question_word (Influenced event) = codes "influenced"
question_word (Why first second) = codes "path"
question_word (Tainted event) = codes "tainted"

-- the events that have to exist: a list can be checked whatever it has, and for any event
abbrev pub events_asked : EventQuestion → List ℕ
events_asked (Explain event) = event ∷ []
events_asked (Check event chain) = []
events_asked (Relation first second) = first ∷ second ∷ []
events_asked (Influenced event) = event ∷ []
events_asked (Why first second) = first ∷ second ∷ []
events_asked (Tainted event) = event ∷ []

-- whether some events are among the first n
abbrev pub are_among : ℕ → List ℕ → Bool
are_among n [] = true
are_among n (event ∷ events) = nat_lt event n && are_among n events

-- whether the events exist that have to, where there are n
abbrev pub can_be_asked : ℕ → EventQuestion → Bool
can_be_asked n question = are_among n (events_asked question)
