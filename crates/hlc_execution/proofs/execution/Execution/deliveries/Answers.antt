use Rattle.std.proofs.Common.{◌≡◌, ℕ, ◌↔◌, List, Option, Some, None, [], ◌∷◌, length, arith, refl, subst, sym}
use Rattle.std.specs.List.{Contains}
use Rattle.std.specs.List.Sorted.{IsStrictlyIncreasing}
use Rattle.std.specs.Prelude.{IsSome}
use Rattle.hlc_causality.specs.Causality.{IsSendOf, skeleton_at}
use Rattle.hlc_causality.specs.Neighbours.{deliveries_of, is_of_send}
use Rattle.hlc_causality.proofs.PlacesBelow.{passing_places_rise}
use Rattle.hlc_execution.specs.Execution.{IsExecution, StoredExecution}
use Rattle.hlc_execution.proofs.DeliveryLinks.{slot_deliveries, slot_deliveries_complete, slot_deliveries_linked}
use Rattle.hlc_execution.proofs.Executions.{send_is_source}
use Rattle.hlc_execution.proofs.SlotNeighbours.{slot_exists}
use Rattle.hlc_execution.proofs.execution.Execution.deliveries.Goals as goal

pub invariant_of-result : goal.invariant_of-result
invariant_of-result c =
    let slots = c.self.inside.slots in
    let ends = c.self.inside.ends in
    let exists = slot_exists c.args.self.now slots ends c.args.id.0 c.self.view_is c.requires in
    let linked = c.self.invariant.linked in
    let execution = c.self.invariant.execution in
    rw (c.first_delivery.ensures)
    (slot_deliveries_linked slots.items linked c.self.inside.rules ends.len slots.room execution c.args.id.0 c.at-slot.result.now exists c.at-slot.ensures)

pub returns-clause-all : goal.returns-clause-all
returns-clause-all c =
    let slots = c.self.inside.slots in
    let ends = c.self.inside.ends in
    let exists = slot_exists c.args.self.now slots ends c.args.id.0 c.self.view_is c.requires in
    let linked = c.self.invariant.linked in
    let execution = c.self.invariant.execution in
    rw (c.first_delivery.ensures, ← c.self.view_is)
    (slot_deliveries slots.items linked c.self.inside.rules ends.len slots.room execution c.args.id.0 c.at-slot.result.now exists c.at-slot.ensures)

pub returns-clause-complete : goal.returns-clause-complete
returns-clause-complete c =
    let slots = c.self.inside.slots in
    let ends = c.self.inside.ends in
    let e = c.args.id.0 in
    let exists = slot_exists c.args.self.now slots ends e c.self.view_is c.requires in
    let linked = c.self.invariant.linked in
    let execution = c.self.invariant.execution in
    let slot = c.at-slot in
    let complete = slot_deliveries_complete slots.items linked c.self.inside.rules ends.len slots.room execution e slot.result.now exists slot.ensures in
    let all_are = λ (x : StoredExecution). (f : ℕ) → Contains (deliveries_of x.events e) f ↔ IsSendOf x.events e f in
    let shown = subst all_are c.self.view_is complete in
    subst (λ (xs : List ℕ). (f : ℕ) → Contains xs f ↔ IsSendOf c.args.self.now.events e f) (sym (returns-clause-all c)) shown

pub returns-clause-rising : goal.returns-clause-rising
returns-clause-rising c =
    let s = c.args.self.now.events in
    subst IsStrictlyIncreasing (sym (returns-clause-all c))
    (passing_places_rise (λ f. is_of_send c.args.id.0 (skeleton_at s f).send) (length s))

empty_from_none : (xs : List ℕ) → ((x : ℕ) → Contains xs x → ⊥) → xs ≡ []
empty_from_none [] none = refl
empty_from_none (x ∷ xs) none = absurd (none x (0, omega arith, refl))

none_from_some : (o : Option ℕ) → IsSome o → o ≡ None → ⊥
none_from_some None some is = cc
none_from_some (Some d) some is = cc

pub returns-clause-none_of_deliveries : goal.returns-clause-none_of_deliveries
returns-clause-none_of_deliveries c = λ delivers.
    let execution = subst IsExecution c.self.view_is c.self.invariant.execution in
    empty_from_none _ (λ f among.
    let send = (returns-clause-complete c f).0 among in
    none_from_some _ delivers (send_is_source c.args.self.now execution f c.args.id.0 send.delivers).1)
