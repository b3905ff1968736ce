-- What the lock keeps.
use Rattle.std.specs.Prelude.{◌≡◌, ℕ, Option, length}
use Rattle.hlc_arena.specs.ClockRule.{HasLeastStamps}
use Rattle.hlc_arena.specs.History.{History}
use Rattle.hlc_core.specs.Lawful.{IsLawful}
use Rattle.hlc_core.specs.Limit.{AreWithinLimit}
use Rattle.hlc_core.specs.Sound.{IsSound}
use Rattle.hlc_core.specs.State.{State}

-- a lawful state with least stamps, of the nodes, the capacity and the limit that the group names; the book counts its events
pub record IsKept (nodes capacity : ℕ) (limit : Option ℕ) (s : State) (total : ℕ) : Type 0 where
  pub sound : IsSound s
  pub nodes_named : s.history.nodes ≡ nodes
  pub capacity_named : s.history.capacity ≡ capacity
  pub limit_named : s.limit ≡ limit
  pub counted : total ≡ length s.history.events

-- a lawful history with least stamps, of so many nodes and this capacity, whose drifts are within the limit, if there is one: what a lock may
-- have kept at some moment
pub record IsSoundHistory (nodes capacity : ℕ) (limit : Option ℕ) (h : History) : Type 0 where
  pub lawful : IsLawful h
  pub least : HasLeastStamps h.events
  pub within : AreWithinLimit limit h.events
  pub nodes_named : h.nodes ≡ nodes
  pub capacity_named : h.capacity ≡ capacity
