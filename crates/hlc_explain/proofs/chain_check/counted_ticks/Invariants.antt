use Rattle.std.proofs.Common.{◌≡◌, ◌+◌, drop}
use Rattle.hlc_stamp.specs.Ids.{places_of}
use Rattle.hlc_causality.specs.ClockChain.{ticks_among}
use Rattle.hlc_execution.specs.Execution.{clock_of}
use Rattle.hlc_explain.proofs.chain_check.counted_ticks.Given as goal

-- what is counted and what is left are those of the whole list
abbrev pub invariant-loop-event : goal.invariant-loop-event
invariant-loop-event l =
    let t = clock_of l.execution in
    l.count + ticks_among t (places_of (drop l.event-index l.list)) ≡ ticks_among t (places_of l.list)
