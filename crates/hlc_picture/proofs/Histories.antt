-- Histories as diagrams show them.
use Rattle.std.proofs.Common.{◌↔◌, ◌∙◌, ◌<◌, ◌≤◌, List, Option, Some, None, arith, ap, length, refl, subst, sym, take}
use Rattle.std.proofs.lemmas.List.{length-take}
use Rattle.hlc_arena.specs.ClockRule.{HasLeastStamps}
use Rattle.hlc_arena.specs.History.{History, StampedEvent, causality_of, event_at, stamps_of}
use Rattle.hlc_arena.proofs.Following.{delivers_earlier}
use Rattle.hlc_arena.proofs.Histories.{length_skeleton, skeleton_at_place}
use Rattle.hlc_causality.specs.declared.receives.Receives.TheVariants.{Tick}
use Rattle.hlc_causality.specs.Causality.{SkeletonEvent}
use Rattle.hlc_causality.specs.Chain.{IsChainOf, IsForcing}
use Rattle.hlc_causality.specs.ClockChain.{IsClockChainOf, IsClockForcing}
use Rattle.hlc_causality.specs.ClockEvents.{ClockEvents}
use Rattle.hlc_causality.specs.Feasible.{IsLeastFeasible}
use Rattle.hlc_causality.specs.ReceiveEvents.{plain_rules}
use Rattle.hlc_causality.proofs.ReceiveEvents.{ticking_receives_tick}
use Rattle.hlc_causality.proofs.Ticking.{ticking_chain_of_is_chain_of, ticking_forcing_is_forcing}
use Rattle.hlc_causality.proofs.TickingReceives.{least_by_readings}
use Rattle.hlc_diagram.specs.Chosen.{IsMissing}
use Rattle.hlc_diagram.specs.Content.{clock_events_of}
use Rattle.hlc_stamp.specs.declared.id.EventId.{EventId}
use Rattle.hlc_picture.specs.Drawn.{HistoriesHaveTheirChains, HistoriesHaveTheirForcing, HistoriesHaveTheirNodes, HistoriesSendFirst, content_of}

pub histories_send_first : HistoriesSendFirst
histories_send_first h well f s exists send =
    let size = length_skeleton h.events in
    let there : f < length h.events = omega arith in
    let kind = ap (λ (x : SkeletonEvent). x.send) (sym (skeleton_at_place h.events f)) ∙ send in
    let lt = delivers_earlier h.nodes (take f h.events) (event_at h.events f) s (well.each f there) kind in
    let before = length-take f h.events in
    omega arith

pub histories_have_their_nodes : HistoriesHaveTheirNodes
histories_have_their_nodes h well e exists =
    let size = length_skeleton h.events in
    let there : e < length h.events = omega arith in
    subst (λ (x : SkeletonEvent). x.node < h.nodes) (sym (skeleton_at_place h.events e)) (well.each e there).node

-- its stamps are the least by floors and ticks
pub least_as_shown : (h : History) → HasLeastStamps h.events → IsLeastFeasible (clock_events_of (content_of h)) (content_of h).stamps
least_as_shown h least = (least_by_readings (plain_rules Tick) (causality_of h.events) refl (stamps_of h.events)).0 least

-- and so are its forcing events and chains
pub histories_have_their_forcing : HistoriesHaveTheirForcing
histories_have_their_forcing h d f =
    let s = causality_of h.events in
    let pairs = stamps_of h.events in
    subst (λ (t : ClockEvents). IsForcing s pairs d f ↔ IsClockForcing t pairs d f) (sym (ticking_receives_tick s))
    (ticking_forcing_is_forcing s pairs d f)

pub histories_have_their_chains : HistoriesHaveTheirChains
histories_have_their_chains h e chain =
    let s = causality_of h.events in
    let pairs = stamps_of h.events in
    subst (λ (t : ClockEvents). IsChainOf s pairs e chain ↔ IsClockChainOf t pairs e chain) (sym (ticking_receives_tick s))
    (ticking_chain_of_is_chain_of s pairs e chain)

-- an event is missing from a history if it is missing from what a diagram shows of it
pub missing_in_history : (events : List StampedEvent) (e : Option EventId) → IsMissing (causality_of events) e → IsMissing events e
missing_in_history events None missing = missing
missing_in_history events (Some e) missing = let size = length_skeleton events in let beyond : length (causality_of events) ≤ e.0 = missing in omega arith

pub missing_in_diagram : (events : List StampedEvent) (e : Option EventId) → IsMissing events e → IsMissing (causality_of events) e
missing_in_diagram events None missing = missing
missing_in_diagram events (Some e) missing = let size = length_skeleton events in let beyond : length events ≤ e.0 = missing in omega arith
