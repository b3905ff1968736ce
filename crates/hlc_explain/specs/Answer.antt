-- What is found of events.
use Rattle.std.specs.Prelude.{Bool, true, false, ℕ, List, [], ◌∷◌, ◌++◌, Option, Some, None, codes, decimal, map, option_map}
use Rattle.hlc_stamp.specs.Ids.{places_of}
use Rattle.hlc_stamp.specs.Order.{Pair}
use Rattle.hlc_causality.specs.Assignment.{pair_at}
use Rattle.hlc_causality.specs.Causality.{Skeleton}
use Rattle.hlc_causality.specs.ClockEvents.{ClockEvents}
use Rattle.hlc_causality.specs.FollowedClockChains.{clock_chain_of, is_clock_explained_by}
use Rattle.hlc_explain.specs.Findings.{influenced_by, relation_of}
use Rattle.hlc_explain.specs.Paths.{path_of}
use Rattle.hlc_explain.specs.Taints.{tainted_by}
use Rattle.hlc_explain.specs.Words.{relation_word}
use Rattle.hlc_explain.specs.declared.answers.Drift.{Drift}
use Rattle.hlc_csv.specs.Rows.{Fields, yes_or_no}
use Rattle.hlc_explain.specs.EventQuestion.{EventQuestion, Explain, Check, Relation, Influenced, Why, Tainted}
use Rattle.hlc_explain.specs.declared.answer.Answer.{Answer as ProgramAnswer}

-- numbers, then events, and then a word, if there is one; the order of the events says something, unless they are a set
pub record Answer : Type 0 where
  pub numbers : List ℕ
  pub events : List ℕ
  pub is_set : Bool
  pub word : Option (List ℕ)

-- an answer of the program, without where its parts lie
abbrev pub plain_answer : ProgramAnswer → Answer
plain_answer answer = record {
  numbers = answer.numbers.items;
  events = places_of answer.events.items;
  is_set = answer.is_set;
  word = option_map (λ word. word.now) answer.word;
}

-- a word alone
abbrev pub word_answer : List ℕ → Answer
word_answer word = record { numbers = []; events = []; is_set = false; word = Some word }

-- a stamp, and events each of which leads to the next, up to the one that has it
abbrev pub way_answer : Pair → List ℕ → Answer
way_answer stamp events = record { numbers = stamp.l ∷ stamp.c ∷ []; events = events; is_set = false; word = None }

-- events in no order of their own
abbrev pub set_answer : List ℕ → Answer
set_answer events = record { numbers = []; events = events; is_set = true; word = None }

-- events from one to another, each a direct predecessor of the next, or that there are none
abbrev pub path_answer : Option (List ℕ) → Answer
path_answer None = word_answer (codes "none")
path_answer (Some path) = record { numbers = []; events = path; is_set = false; word = None }

-- what answers a question about the events of s and t with these stamps
abbrev pub answer_of : Skeleton → ClockEvents → List Pair → EventQuestion → Answer
answer_of s t pairs (Explain event) = way_answer (pair_at pairs event) (clock_chain_of t pairs event)
answer_of s t pairs (Check event chain) = word_answer (yes_or_no (is_clock_explained_by t pairs event chain))
answer_of s t pairs (Relation first second) = word_answer (relation_word (relation_of s first second))
answer_of s t pairs (Influenced event) = set_answer (influenced_by s event)
answer_of s t pairs (Why first second) = path_answer (path_of s first second)
answer_of s t pairs (Tainted event) = set_answer (tainted_by t pairs event)

-- what tells a node's drift: how far it is ahead, at which event, and the origin of that event; or that it has none
abbrev pub drift_answer : Option Drift → Answer
drift_answer None = word_answer (codes "none")
drift_answer (Some drift) =
    record { numbers = drift.ahead ∷ []; events = drift.event.0 ∷ drift.origin.0 ∷ []; is_set = false; word = None }

-- a word, if there is one, as the last field of a row
abbrev pub last_field : Option (List ℕ) → Fields
last_field None = []
last_field (Some word) = word ∷ []

-- the row of an answer: a word, what was asked about, the numbers, the events as they are told, and the word
abbrev pub answer_row : (word : List ℕ) → (asked events : Fields) → Answer → Fields
answer_row word asked events answer = word ∷ (asked ++ map decimal answer.numbers ++ events ++ last_field answer.word)
