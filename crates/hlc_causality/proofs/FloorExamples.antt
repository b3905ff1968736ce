-- A worked example of floors and ticks.
use Rattle.std.proofs.Common.{◌≡◌, ◌<◌, inl, inr, true, false, lit<, [], ◌∷◌, Some, None, refl, arith}
use Rattle.hlc_causality.specs.Causality.{IsDirectPredecessor}
use Rattle.hlc_causality.specs.ClockChain.{IsClockChain}
use Rattle.hlc_causality.specs.ClockEvents.{ClockEvents, clock_skeleton}
use Rattle.hlc_causality.specs.LeastFeasible.{least_feasible}

-- node 0 begins with a stamp that it kept, and sends it; node 1 receives it at an event that doesn't tick, and writes when it reads 9
abbrev kept : ClockEvents
kept =
    record { node = 0; floor = record { l = 10; c = 3 }; ticks = true; send = None }
    ∷ record { node = 1; floor = record { l = 8; c = 0 }; ticks = false; send = Some 0 }
    ∷ record { node = 1; floor = record { l = 9; c = 0 }; ticks = true; send = None }
    ∷ []

-- the receive has the stamp that it received, and only the write counts on
kept_pairs : least_feasible kept ≡ record { l = 10; c = 3 } ∷ record { l = 10; c = 3 } ∷ record { l = 10; c = 4 } ∷ []
unfolding least_feasible
kept_pairs = refl

kept_sent : IsDirectPredecessor (clock_skeleton kept) 0 1
kept_sent = inr (record { earlier = lit< tt; exists = lit< tt; delivers = refl })

kept_own : IsDirectPredecessor (clock_skeleton kept) 1 2
kept_own = inl (record {
  at_node = record { earlier = lit< tt; exists = lit< tt; same_node = refl };
  latest = λ m h. let lt : m < 2 = h.earlier in omega arith;
})

-- from the floor (10, 3) one of two events ticks: that forces (10, 4)
kept_chain : IsClockChain kept (record { l = 10; c = 4 }) 2 (0 ∷ 1 ∷ 2 ∷ [])
kept_chain = record { exists = lit< tt; floor = refl; counts = refl; linked = (kept_sent, (kept_own, refl)) }
