-- Calls on a cluster with what came of them, and the laws that tie them to the headline.
use Rattle.std.specs.Prelude.{◌≡◌, ℕ, Bool, true, false, List, [], ◌∷◌, flat_map, Option, None, Result, Ok, Err, if◌then◌else◌}
use Rattle.hlc_core.specs.declared.accepted.Accepted.{Accepted}
use Rattle.hlc_pool.specs.declared.no_message.NoMessage.{NoMessage}
use Rattle.hlc_core.specs.declared.refusal.Refusal.{Refusal}
use Rattle.hlc_core.specs.declared.refusal.Refusal.TheVariants.{Memory}
use Rattle.hlc_core.specs.Asked.{Asked, StepsAlong, StepsTo, ToAct, ToLose}
use Rattle.hlc_core.specs.Laws.{KeepsThePromise}
use Rattle.hlc_core.specs.Request.{Request}
use Rattle.hlc_core.specs.Sound.{IsSound}
use Rattle.hlc_core.specs.State.{MakesCluster, State, new_refusal, new_state}
use Rattle.hlc_core.specs.Step.{EndsMessage, IsAnswered}

-- a call that may change a cluster, with its result
pub data Call : Type 0 where
  ActCall : (node reading : ℕ) (request : Request) (result : Result Accepted Refusal) → Call
  LoseCall : (sent : ℕ) (result : Result (Unit {0}) NoMessage) → Call

-- what the call promises of the states before and after it
abbrev pub HasOutcome : State → Call → State → Type 0
HasOutcome old (ActCall node reading request result) new = IsAnswered old node reading request result new
HasOutcome old (LoseCall sent result) new = EndsMessage old sent result new

-- what calls in turn promise of the states before and after them
abbrev pub HaveOutcomes : State → List Call → State → Type 0
HaveOutcomes old [] new = new ≡ old
HaveOutcomes old (call ∷ more) new = (next : State) × HasOutcome old call next × HaveOutcomes next more new

abbrev pub is_out_of_memory : Result Accepted Refusal → Bool
is_out_of_memory (Err Memory) = true
is_out_of_memory _ = false

-- what a call asks; a request for which memory was refused counts as not asked
abbrev pub asked_by_call : Call → List Asked
asked_by_call (ActCall node reading request result) = if is_out_of_memory result then [] else ToAct node reading request ∷ []
asked_by_call (LoseCall sent result) = ToLose sent ∷ []

-- what calls ask, in turn
abbrev pub asked_by_calls : List Call → List Asked
asked_by_calls calls = flat_map asked_by_call calls

-- what comes of losing a message is its step
abbrev pub LossesAreSteps : Type 0
LossesAreSteps = (old new : State) (sent : ℕ) (result : Result (Unit {0}) NoMessage) → EndsMessage old sent result new → StepsTo old (ToLose sent) new

-- what comes of any calls in turn is the steps that they ask for
abbrev pub CallsAreSteps : Type 0
CallsAreSteps = (old new : State) (calls : List Call) → HaveOutcomes old calls new → StepsAlong old (asked_by_calls calls) new

-- a cluster that was made is the one of which the headline speaks
abbrev pub NewIsFirst : Type 0
NewIsFirst = (nodes capacity : ℕ) (limit : Option ℕ) (s : State) → MakesCluster nodes capacity limit (Ok s) →
    (new_refusal nodes capacity ≡ None) × StepsAlong (new_state nodes capacity limit) [] s

-- whatever is called on a cluster that was made, its state follows what was asked, and keeps the promise
abbrev pub CallsKeepThePromise : Type 0
CallsKeepThePromise = (nodes capacity : ℕ) (limit : Option ℕ) (first s : State) (calls : List Call) →
    MakesCluster nodes capacity limit (Ok first) → HaveOutcomes first calls s →
    StepsAlong (new_state nodes capacity limit) (asked_by_calls calls) s × KeepsThePromise s

-- a sound state keeps the promise
abbrev pub SoundKeepsThePromise : Type 0
SoundKeepsThePromise = (s : State) → IsSound s → KeepsThePromise s
