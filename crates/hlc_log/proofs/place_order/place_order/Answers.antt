use Rattle.std.proofs.Common.{ℕ, List, ap, subst, sym, ◌∙◌}
use Rattle.std.specs.Prelude.{All}
use Rattle.hlc_stamp.specs.declared.id.EventId.{EventId}
use Rattle.hlc_stamp.specs.Ids.{places_of}
use Rattle.hlc_causality.specs.Places.{places_below}
use Rattle.hlc_log.specs.CausalOrder.{IsCausalOrder}
use Rattle.hlc_log.specs.Events.{IsNumbered}
use Rattle.hlc_log.proofs.LoggedOrders.{logged_is_causal}
use Rattle.hlc_log.proofs.Placements.{all_placed, first_front_waits}
use Rattle.hlc_log.proofs.SentMessages.{each_once}
use Rattle.hlc_log.proofs.place_order.place_order.Goals as goal

pub returns-then-sends_come_first-clause-order : goal.returns-then-sends_come_first-clause-order
returns-then-sends_come_first-clause-order c =
    let events = c.args.log.now.events in
    let places = c.in_ok-logged_order.ensures ∙ ap places_below c.len.ensures.value in
    subst (IsCausalOrder events) (sym places) (logged_is_causal events c.requires.rise (c.sends_come_first.ensures.first c.if-sends_come_first.true))

pub returns-then-sends_come_first-clause-sound : goal.returns-then-sends_come_first-clause-sound
returns-then-sends_come_first-clause-sound c =
    let events = c.args.log.now.events in
    let numbered = subst (λ (n : ℕ). All (IsNumbered n) events) (sym c.in_ok-sends.ensures.len) c.requires.numbered in
    record {
      once = each_once events c.in_ok-sends.sends.items numbered c.in_ok-sends.ensures.links;
      sent = c.sends_come_first.ensures.sent c.if-sends_come_first.true;
    }

pub returns-in-None-clause-order : goal.returns-in-None-clause-order
returns-in-None-clause-order c =
    let events = c.args.log.now.events in
    let placing = c.in_ok-placing.placing in
    subst (λ (ids : List EventId). IsCausalOrder events (places_of ids)) (sym c.into_order.ensures)
    (all_placed events placing.next.items placing.fronts.items (places_of placing.order.items) c.in_ok-placing.ensures.placing c.in-None.ensures)

pub returns-clause-fault : goal.returns-clause-fault
returns-clause-fault c =
    let events = c.args.log.now.events in
    let placing = c.in_ok-placing.placing in (
      c.in_ok-find_unsent.ensures,
      first_front_waits events placing.next.items placing.fronts.items (places_of placing.order.items) c.in_ok-placing.ensures.placing
          c.in_ok-placing.ensures.stuck c.in-Some.first c.in-Some.ensures,
    )
