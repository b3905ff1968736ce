use Rattle.std.proofs.Common.{arith}
use Rattle.std.proofs.lemmas.List.{length-map}
use Rattle.std.proofs.lemmas.List.Sums.{count_by-le-length}
use Rattle.hlc_stamp.specs.declared.id.EventId.{EventId}
use Rattle.hlc_stamp.specs.Ids.{places_of}
use Rattle.hlc_causality.specs.ClockEvents.{clock_event_at}
use Rattle.hlc_execution.specs.Execution.{clock_of}
use Rattle.hlc_explain.proofs.chain_check.counted_ticks.Goals as goal

pub overflow_add-count : goal.overflow_add-count
overflow_add-count c =
    let t = clock_of c.args.execution.now in
    let list = c.args.list.now in
    let most = count_by-le-length (λ e. (clock_event_at t e).ticks) (places_of list) in
    let len = length-map list (λ (id : EventId). id.0) in
    grind (arith, most, len, c.loop-event.invariant)
