-- What is asked of a cluster, one thing after the other, and the states that follow.
use Rattle.std.specs.Prelude.{◌≡◌, ℕ, List, [], ◌∷◌, Option, Some, None, if◌then◌else◌}
use Rattle.hlc_stamp.specs.Order.{Pair}
use Rattle.hlc_arena.specs.ClockRule.{MeetsClockRule}
use Rattle.hlc_arena.specs.History.{Event, StampedEvent}
use Rattle.hlc_core.specs.declared.refusal.Refusal.{Refusal}
use Rattle.hlc_core.specs.Request.{Request}
use Rattle.hlc_core.specs.State.{State, is_live}
use Rattle.hlc_core.specs.Step.{event_for, live_after, refusal_of, state_with, with_lost}

-- one thing that may be asked: that a node acts, or that a message is lost
pub data Asked : Type 0 where
  ToAct : (node reading : ℕ) (request : Request) → Asked
  ToLose : (sent : ℕ) → Asked

abbrev pub with_stamp : Event → Pair → StampedEvent
with_stamp e stamp = record { event = e; stamp = stamp }

-- a refusal, if there is one, leaves the state; else an event is added with the stamp that the clock rule gives it
abbrev pub AddsUnless : Option Refusal → State → Event → List ℕ → State → Type 0
AddsUnless (Some refusal) old e live new = new ≡ old
AddsUnless None old e live new = (stamp : Pair) × MeetsClockRule old.history.events (with_stamp e stamp) × (new ≡ state_with old (with_stamp e stamp) live)

-- the state after one thing that was asked, refused or not; a message that isn't live can't be lost
abbrev pub StepsTo : State → Asked → State → Type 0
StepsTo old (ToAct node reading request) new =
    AddsUnless (refusal_of old node reading request) old (event_for old node reading request) (live_after old node request) new
StepsTo old (ToLose sent) new = new ≡ (if is_live old sent then with_lost old sent else old)

-- the state after all that was asked, in turn
abbrev pub StepsAlong : State → List Asked → State → Type 0
StepsAlong old [] new = new ≡ old
StepsAlong old (one ∷ more) new = (next : State) × StepsTo old one next × StepsAlong next more new
