-- What a link keeps: the place of an event, which is got back from the event that the link leads to.
use Rattle.std.specs.Prelude.{◌≡◌, ◌==◌, ℕ, Bool, true, false, Option, Some, None, if◌then◌else◌}
use Rattle.std.proofs.Common.{sym, ap, refl}
use Rattle.std.proofs.lemmas.Bool.{eqb-true}
use Rattle.hlc_stamp.specs.declared.id.EventId.{EventId}
use Rattle.hlc_pages.specs.declared.link.TheConstants.{NO_PLACE}
use Rattle.hlc_pages.specs.declared.link.Link.TheInside.{Inside}

-- the event that a link to a place leads to, or None
abbrev pub linked_to : ℕ → Option EventId
linked_to place = if place == NO_PLACE then None else Some (record { 0 = place })

-- the place of a link to this event, or to None
abbrev pub link_place : Option EventId → ℕ
link_place None = NO_PLACE
link_place (Some event) = event.0

place_by_test : (place : ℕ) (test : Bool) → (place == NO_PLACE) ≡ test → link_place (if test then None else Some (record { 0 = place })) ≡ place
place_by_test place true is = sym (eqb-true place NO_PLACE is)
place_by_test place false is = refl

pub place_of_linked : (link : Inside) → record { place = link_place (linked_to link.place) } ≡ link
place_of_linked link = ap (λ (place : ℕ). (let made : Inside = record { place = place } in made)) (place_by_test link.place (link.place == NO_PLACE) refl)
