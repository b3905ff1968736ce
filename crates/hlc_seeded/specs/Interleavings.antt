-- Lists of steps, one for each node, interleaved into one.
use Rattle.std.specs.Prelude.{◌≡◌, ◌==◌, ℕ, ◌*◌, ◌≤◌, None, List, [], ◌∷◌, ◌++◌, slice_index_or, if◌then◌else◌}
use Rattle.hlc_core.specs.Asked.{Asked, StepsAlong, ToAct, ToLose}
use Rattle.hlc_core.specs.Request.{Request}
use Rattle.hlc_core.specs.State.{State, new_refusal, new_state}
use Rattle.hlc_core.specs.Step.{refusal_of}
use Rattle.hlc_core.specs.Timed.{TimedRequest}
use Rattle.hlc_seeded.specs.Storm.{scripts_of}

-- what a node is asked, in order
abbrev pub asked_at : ℕ → List Asked → List TimedRequest
asked_at node [] = []
asked_at node (ToAct other reading request ∷ more) =
    if other == node then record { reading = reading; request = request } ∷ asked_at node more else asked_at node more
asked_at node (ToLose sent ∷ more) = asked_at node more

-- each node is asked the steps of its list, from the first on and in their order; messages may be lost at any time
abbrev pub IsInterleaving : List (List TimedRequest) → List Asked → Type 0
IsInterleaving lists asked = (node : ℕ) → (rest : List TimedRequest) × (asked_at node asked ++ rest ≡ slice_index_or lists node [])

-- no step of seeded scripts is refused in the state that it meets, however they are interleaved, if the capacity is at least
-- the number of all steps and there is no drift limit
abbrev pub SeededStepsAreNeverRefused : Type 0
SeededStepsAreNeverRefused = (words : ℕ → ℕ) (nodes steps capacity : ℕ) (before after : List Asked) (node reading : ℕ) (request : Request) (s : State) →
    new_refusal nodes capacity ≡ None → nodes * steps ≤ capacity →
    IsInterleaving (scripts_of words nodes steps) (before ++ ToAct node reading request ∷ after) →
    StepsAlong (new_state nodes capacity None) before s → refusal_of s node reading request ≡ None
