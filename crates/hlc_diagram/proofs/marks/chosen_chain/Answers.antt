use Rattle.std.proofs.Common.{◌≡◌, ◌≤◌, arith, ap, false, length, true}
use Rattle.std.specs.Prelude.{nat_lt}
use Rattle.std.proofs.lemmas.Bool.Decides.{nat_tests}
use Rattle.hlc_stamp.specs.Ids.{places_of}
use Rattle.hlc_causality.proofs.FollowedClockChains.{clock_chain_is_followed}
use Rattle.hlc_causality.proofs.ReceiveEvents.{clock_events_size}
use Rattle.hlc_execution.specs.Execution.{clock_of}
use Rattle.hlc_diagram.proofs.marks.chosen_chain.Goals as goal

pub returns-in-Ok-clause-chosen : goal.returns-in-Ok-clause-chosen
returns-in-Ok-clause-chosen c =
    let x = c.args.execution.now in
    let event = c.in-Some.event.0 in
    let exists = c.in-Ok.ensures.explains.exists in
    let test : nat_lt event (length (clock_of x)) ≡ true = grind (arith, nat_tests, exists) in
    rw (c.in-Some.is, test) (clock_chain_is_followed (clock_of x) x.stamps event (places_of c.in-Ok.list.items) exists c.in-Ok.ensures.chain)

pub returns-in-Err-NoEvent-clause-chosen : goal.returns-in-Err-NoEvent-clause-chosen
returns-in-Err-NoEvent-clause-chosen c =
    let x = c.args.execution.now in
    let event = c.in-Some.event.0 in
    let none : length x.events ≤ event = c.chain.ensures.no_event.0 (cc (c.in-Err-NoEvent.is, c.in-Err-NoEvent.field-0-is)) in
    let test : nat_lt event (length (clock_of x)) ≡ false = grind (arith, nat_tests, none, clock_events_size x.rules x.events) in
    rw (c.in-Some.is, test) (ap places_of c.new-in-Err-NoEvent.ensures.items)
