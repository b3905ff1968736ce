-- What explains a stamp by floors and ticks: a list of events that forces every clock up to it.
use Rattle.std.specs.Prelude.{ℕ, ◌<◌, List, length}
use Rattle.hlc_stamp.specs.Order.{IsAtMost, Pair}
use Rattle.hlc_causality.specs.Assignment.{pair_at}
use Rattle.hlc_causality.specs.ClockChain.{IsClockChain}
use Rattle.hlc_causality.specs.ClockEvents.{ClockEvents}
use Rattle.hlc_causality.specs.Feasible.{IsFeasible}

-- every feasible assignment has at e at least the pair that stands there
abbrev pub IsClockForcedAt : ClockEvents → List Pair → ℕ → Type 0
IsClockForcedAt t pairs e = (others : List Pair) → IsFeasible t others → IsAtMost (pair_at pairs e) (pair_at others e)

-- the event at e exists, and the list is a chain for its pair
pub record IsClockExplainedBy (t : ClockEvents) (pairs : List Pair) (e : ℕ) (list : List ℕ) : Type 0 where
  pub exists : e < length t
  pub chain : IsClockChain t (pair_at pairs e) e list
