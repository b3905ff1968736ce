use Rattle.std.proofs.Common.{◌≡◌, Bool, List, refl, subst, sym}
use Rattle.std.specs.Prelude.{All}
use Rattle.std.proofs.lemmas.List.Elements.{All-same}
use Rattle.hlc_log.specs.declared.log_event.LogEvent.{LogEvent}
use Rattle.hlc_log.specs.Events.{IsInRange, IsNumbered}
use Rattle.hlc_log.specs.Log.{StoredLog}
use Rattle.hlc_log.specs.Messages.{ReceivesUnsent}
use Rattle.hlc_log.specs.Slots.{stored_events}
use Rattle.hlc_log.specs.Unsent.{outside_count, with_unsent}
use Rattle.hlc_log.proofs.StoredEvents.{none_carried}
use Rattle.hlc_log.proofs.UnsentEvents.{all_still_in_range, all_still_numbered, none_left, none_outside, nothing_taken}
use Rattle.hlc_log.proofs.log.Log.take_unsent.Goals as goal

pub returns-then-not-as_local-clause-events : goal.returns-then-not-as_local-clause-events
returns-then-not-as_local-clause-events c =
    let slots = c.self.inside.slots.items in
    let asides = c.self.inside.asides in
    let events = stored_events asides slots in
    subst (λ (log : StoredLog). log.events ≡ with_unsent c.args.as_local log.events) c.self.view_is
    (subst (λ (as_local : Bool). events ≡ with_unsent as_local events) (sym c.if-not-as_local.true)
    (nothing_taken events (none_carried asides (c.if-has_no_carried.ensures.0 refl) slots)))

pub returns-then-not-as_local-clause-outside : goal.returns-then-not-as_local-clause-outside
returns-then-not-as_local-clause-outside c =
    let slots = c.self.inside.slots.items in
    let asides = c.self.inside.asides in
    let events = stored_events asides slots in
    subst (λ (log : StoredLog). 0 ≡ outside_count log.events) c.self.view_is
    (sym (none_outside events (none_carried asides (c.if-has_no_carried.ensures.0 refl) slots)))

pub returns-clause-none_left : goal.returns-clause-none_left
returns-clause-none_left c is f =
    subst (λ (events : List LogEvent). ¬ ReceivesUnsent events f) (sym c.take_unmarked.ensures.events)
    (subst (λ (as_local : Bool). ¬ ReceivesUnsent (with_unsent as_local (stored_events c.self.inside.asides c.self.inside.slots.items)) f) (sym is)
    (none_left (stored_events c.self.inside.asides c.self.inside.slots.items) f))

pub returns-clause-numbered : goal.returns-clause-numbered
returns-clause-numbered c =
    let old = stored_events c.self.inside.asides c.self.inside.slots.items in
    let numbered = subst (λ (log : StoredLog). All (IsNumbered c.args.messages) log.events) (sym c.self.view_is) c.requires in
    All-same (IsNumbered c.args.messages) _ _ c.take_unmarked.ensures.events (all_still_numbered c.args.messages c.args.as_local old numbered)

pub returns-clause-in_range : goal.returns-clause-in_range
returns-clause-in_range c in_range =
    let old = stored_events c.self.inside.asides c.self.inside.slots.items in
    let before = subst (λ (log : StoredLog). All IsInRange log.events) (sym c.self.view_is) in_range in
    All-same IsInRange _ _ c.take_unmarked.ensures.events (all_still_in_range c.args.as_local old before)
