-- The first event of a node that breaks a rule, told by the word that rows of causes have for the rule.
use Rattle.std.specs.Prelude.{◌||◌, Bool, ℕ, IsTrue, MatchOption, Option, is_some}
use Rattle.hlc_causality.specs.Causality.{IsEarlierAtNode}
use Rattle.hlc_causality.specs.NodeEvents.{IsEventOf}
use Rattle.hlc_causes.specs.declared.answers.Causes.{Causes}
use Rattle.hlc_ordered_log.specs.Found.{NamesCausesIn}
use Rattle.hlc_ordered_log.specs.InOrder.{LogInOrder, skeleton_of, wrong_of}
use Rattle.hlc_log_text.specs.declared.cause_word.CauseWord.{CauseWord}
use Rattle.hlc_log_text.specs.declared.cause_word.CauseWord.TheVariants as word

-- whether one of the rows of an event with these causes has the word, whose message carried another stamp than such a send, if there is one
abbrev pub is_told_by : CauseWord → Causes → (wrong : Option ℕ) → Bool
is_told_by word.Behind causes wrong = causes.behind
is_told_by word.NotAbove causes wrong = is_some causes.not_above_previous || is_some causes.not_above_send
is_told_by word.Ahead causes wrong = is_some causes.ahead
is_told_by word.Carried causes wrong = is_some wrong

-- the event at k breaks the rule that the word tells
abbrev pub BreaksBy : LogInOrder → (full : ℕ) → CauseWord → (k : ℕ) → Type 0
BreaksBy log full word k = (causes : Causes) × NamesCausesIn log full k causes × IsTrue (is_told_by word causes (wrong_of log k))

-- the event at k is a node's, it breaks the rule, and none of the node's own events before it does
pub record IsFirstToBreak (log : LogInOrder) (full : ℕ) (word : CauseWord) (node k : ℕ) : Type 0 where
  pub event : IsEventOf (skeleton_of log) node k
  pub breaks : BreaksBy log full word k
  pub first : (j : ℕ) → IsEarlierAtNode (skeleton_of log) j k → ¬ BreaksBy log full word j

-- an answer is that event, or None if no event of the node breaks the rule
abbrev pub NamesFirstToBreak : LogInOrder → (full : ℕ) → CauseWord → (node : ℕ) → Option ℕ → Type 0
NamesFirstToBreak log full word node found =
    MatchOption found ((k : ℕ) → IsEventOf (skeleton_of log) node k → ¬ BreaksBy log full word k) (λ k. IsFirstToBreak log full word node k)
