use Rattle.std.proofs.Common.{◌≡◌}
use Rattle.std.specs.Prelude.{filter}
use Rattle.hlc_stamp.specs.Ids.{places_of}
use Rattle.hlc_causality.specs.Places.{places_below}
use Rattle.hlc_execution.specs.Execution.{clock_of}
use Rattle.hlc_explain.specs.Taints.{is_raised}
use Rattle.hlc_explain.proofs.taints.WithoutFloor.raised.Given as goal

-- the raised events before the place are listed
abbrev pub invariant-loop-place : goal.invariant-loop-place
invariant-loop-place l =
    let x = l.execution in places_of l.raised.items ≡ filter (is_raised (clock_of x) x.stamps l.self.event.0) (places_below l.place)
