-- Copies of a log in the order in which its events stand.
use Rattle.std.proofs.Common.{◌≡◌, ◌∙◌, ℕ, ◌<◌, List, length, arith, ap, subst, sym}
use Rattle.std.specs.Prelude.{All}
use Rattle.std.proofs.lemmas.List.{get_or-map, length-map}
use Rattle.std.proofs.lemmas.List.Elements.{All-from_get_or, All-get_or}
use Rattle.hlc_stamp.specs.declared.id.EventId.{EventId}
use Rattle.hlc_stamp.specs.Ids.{places_of}
use Rattle.hlc_log.specs.declared.log_event.LogEvent.{LogEvent}
use Rattle.hlc_log.specs.CausalOrder.{place_at}
use Rattle.hlc_log.specs.Events.{event_at, no_event}
use Rattle.hlc_log.specs.StandingOrder.{arranged}

-- numbers of events are places
pub ids_below : (ids : List EventId) (n : ℕ) → ((k : ℕ) → k < length (places_of ids) → place_at (places_of ids) k < n) → All (λ (id : EventId). id.0 < n) ids
ids_below ids n each k d lt =
    let at = get_or-map (λ (id : EventId). id.0) ids k d 0 lt in
    let size = length-map ids (λ (id : EventId). id.0) in
    let below = each k (omega arith) in
    omega arith

-- the copy is the log in that order
pub copied : (events copy : List LogEvent) (ids standing : List EventId) → copy ≡ arranged events (places_of ids) → ids ≡ standing
    → copy ≡ arranged events (places_of standing)
copied events copy ids standing is same = is ∙ ap (λ (xs : List EventId). arranged events (places_of xs)) same

-- what is so of each event of a log is so of those at places of it
pub arranged_all : (P : LogEvent → Type 0) (events : List LogEvent) (places : List ℕ) → ((k : ℕ) → k < length places → place_at places k < length events)
    → All P events → All P (arranged events places)
arranged_all P events places exist all =
    All-from_get_or P (arranged events places) no_event (λ k lt.
    let size = length-map places (event_at events) in
    let within : k < length places = omega arith in
    subst P (sym (get_or-map (event_at events) places k 0 no_event within)) (All-get_or P events (place_at places k) no_event (exist k within) all))
