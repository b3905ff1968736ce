-- What is always true of a cluster.
use Rattle.hlc_arena.specs.ClockRule.{HasLeastStamps}
use Rattle.hlc_core.specs.Limit.{AreWithinLimit}
use Rattle.hlc_core.specs.State.{IsLawfulState, State}

-- whatever was asked so far: the state is lawful, its stamps are the least that any allowed assignment gives, and if there is a limit, no
-- event's drift exceeds it
pub record IsSound (s : State) : Type 0 where
  pub lawful : IsLawfulState s
  pub least : HasLeastStamps s.history.events
  pub within : AreWithinLimit s.limit s.history.events
