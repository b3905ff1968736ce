use Rattle.std.proofs.Common.{◌∙◌, ◌<◌, ℕ, List, length, Option, arith, subst, sym, ap}
use Rattle.std.proofs.lemmas.List.{length-map}
use Rattle.hlc_stamp.specs.Order.{Pair}
use Rattle.hlc_stamp.specs.Ids.{places_of}
use Rattle.hlc_stamp.specs.declared.id.EventId.{EventId}
use Rattle.hlc_causality.specs.Causality.{Skeleton}
use Rattle.hlc_causality.specs.ClockEvents.{ClockEvents, clock_skeleton}
use Rattle.hlc_causality.specs.Predecessors.{send_of}
use Rattle.hlc_execution.specs.Execution.{clock_of}
use Rattle.hlc_causes.specs.Given.{given_at}
use Rattle.hlc_causes.specs.Seen.{seen}
use Rattle.hlc_causes.proofs.LinksFound.{send_of_received}
use Rattle.hlc_causes.proofs.Predecessors.{send_named}
use Rattle.hlc_log.specs.Events.{event_at}
use Rattle.hlc_log.proofs.OrderSkeletons.{length-skeleton_in, place_exists}
use Rattle.hlc_ordered_log.specs.InOrder.{carried_of, claimed_in, log_in_order}
use Rattle.hlc_ordered_log.proofs.Ordering.{place_here}
use Rattle.hlc_ordered_log.proofs.giving.given_stamp.Goals as goal

pub carried_at-carried-requires : goal.carried_at-carried-requires
carried_at-carried-requires c =
    let order = c.args.order.now in
    let lt = c.requires.exists in
    let size = length-map order (λ (id : EventId). id.0) in
    subst (λ (e : ℕ). e < length c.args.log.now.events) (place_here order c.args.position.0 lt)
    (place_exists c.args.log.now.events (places_of order) c.requires.order c.args.position.0 (omega arith))

pub returns : goal.returns
returns c =
    let x = c.args.execution.now in
    let k = c.args.position.0 in
    let order = c.args.order.now in
    let events = c.args.log.now.events in
    let log = log_in_order c.args.log.now order x in
    let claimed = claimed_in events (places_of order) in
    let places = length-map order (λ (id : EventId). id.0) in
    let size = length-skeleton_in events (places_of order) c.requires.order in
    let same = ap (λ (s : Skeleton). length s) c.requires.execution.events_are in
    let lt = c.requires.exists in
    let given : ClockEvents → Option ℕ → Option Pair → Pair = λ t send carried. given_at t (seen claimed send carried) k in
    c.stamp_given.ensures
    ∙ ap (λ (pairs : List Pair). given_at (clock_of x) pairs k) c.new-seen.ensures
    ∙ ap (λ (send : Option ℕ). given (clock_of x) send c.carried_at-carried.result)
    (send_named x.events k c.send.result (omega arith) c.send.ensures ∙ send_of_received x.rules x.events k)
    ∙ ap (given (clock_of x) (send_of (clock_skeleton (clock_of x)) k))
    (c.carried_at-carried.ensures ∙ ap (λ (e : ℕ). (event_at events e).carried) (sym (place_here order k lt)))
    ∙ ap (λ (t : ClockEvents). given t (send_of (clock_skeleton t) k) (carried_of log k)) c.requires.execution.clocks_are
