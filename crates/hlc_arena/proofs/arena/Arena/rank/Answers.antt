use Rattle.std.proofs.Common.{◌≡◌, ◌∙◌, sym, ap}
use Rattle.std.proofs.lemmas.Option.{MatchOption-at_some}
use Rattle.hlc_stamp.specs.declared.rank.Rank.{Rank}
use Rattle.hlc_stamp.specs.Order.{Pair}
use Rattle.hlc_causality.specs.Assignment.{pair_at}
use Rattle.hlc_causality.specs.Causality.{SkeletonEvent, skeleton_at}
use Rattle.hlc_execution.specs.Events.{skeleton_event_of}
use Rattle.hlc_arena.specs.History.{StampedEvent}
use Rattle.hlc_arena.proofs.Keeping.{event_shown}
use Rattle.hlc_arena.proofs.arena.Arena.rank.Goals as goal

-- the rank of an event with its stamp
abbrev rank_of : StampedEvent → Rank
rank_of e = record { stamp = e.stamp; node = record { 0 = e.event.node } }

abbrev rank_with : Pair → SkeletonEvent → Rank
rank_with p e = record { stamp = p; node = record { 0 = e.node } }

pub returns : goal.returns
returns c =
    let x = c.self.inside.execution in
    let i = c.args.id.0 in
    let event = c.unwrap-event.result in
    let seen : skeleton_event_of event ≡ skeleton_at x.events i =
    MatchOption-at_some (Unit {0}) (λ e. skeleton_event_of e ≡ skeleton_at x.events i) event c.unwrap-event.ensures c.get.ensures.event in
    let stamp : event.stamp ≡ pair_at x.stamps i =
    MatchOption-at_some (Unit {0}) (λ e. e.stamp ≡ pair_at x.stamps i) event c.unwrap-event.ensures c.get.ensures.stamp in
    ap (λ (p : Pair). rank_with p (skeleton_event_of event)) stamp
    ∙ ap (rank_with (pair_at x.stamps i)) seen
    ∙ sym (ap rank_of (event_shown c.self.invariant c.self.view_is i c.requires))
