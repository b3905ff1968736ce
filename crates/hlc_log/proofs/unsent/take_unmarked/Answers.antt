use Rattle.std.proofs.Common.{◌≡◌, ◌<◌, ◌+◌, ◌≤◌, ◌∙◌, ℕ, Bool, true, false, List, Option, get_or, length, arith, refl, subst, sym, ap}
use Rattle.std.specs.Prelude.{count_by, if◌then◌else◌, is_some}
use Rattle.std.proofs.lemmas.List.{length-set, take_all}
use Rattle.std.proofs.lemmas.List.Sums.{count_by_more_no, count_by_more_yes}
use Rattle.hlc_stamp.specs.Order.{Pair}
use Rattle.hlc_log.specs.declared.asides.Asides.{Asides}
use Rattle.hlc_log.specs.declared.log_event.LogEvent.{LogEvent}
use Rattle.hlc_log.specs.declared.log_event.LogKind.TheVariants.{Receive}
use Rattle.hlc_log.specs.declared.message_id.MessageId.{MessageId}
use Rattle.hlc_log.specs.declared.slot.Slot.{Slot}
use Rattle.hlc_log.specs.Events.{IsMessageBelow, event_at, no_event}
use Rattle.hlc_log.specs.Slots.{aside_at, kind_by, stored_event, stored_events}
use Rattle.hlc_log.specs.Unsent.{is_outside, is_unsent, is_untold, taken_event, taken_kind}
use Rattle.hlc_log.proofs.Numbered.{numbered_at}
use Rattle.hlc_log.proofs.StoredEvents.{stored_at, stored_set, stored_size}
use Rattle.hlc_log.proofs.UnsentEvents.{all_taken, left_more, outside_if, taken_more, taken_slot, unmarked_is_unsent, untold_if}
use Rattle.hlc_log.proofs.unsent.take_unmarked.Goals as goal
use Rattle.hlc_log.proofs.unsent.take_unmarked.Goals.{then-take_unmarked+then-is_some, then-take_unmarked+else-is_some, else-take_unmarked}

pub loop-place-init : goal.loop-place-init
loop-place-init c = record {
  len = refl;
  taken = λ k lt. absurd (omega (arith, lt));
  left = λ k le. refl;
  outside = refl;
  unsent = refl;
}

pub at_mut-slot-requires : goal.at_mut-slot-requires
at_mut-slot-requires c = omega (arith, c.loop-place-test.true, c.len-place-end.ensures, c.loop-place.invariant.len)

-- the event that is taken is as it was
slot_is : (asides : Asides) (slots old_slots : List Slot) (place : ℕ) (old : Slot) → length slots ≡ length old_slots → place < length slots
    → old ≡ get_or slots place old → event_at (stored_events asides slots) place ≡ event_at (stored_events asides old_slots) place
    → stored_event (aside_at asides place) old ≡ event_at (stored_events asides old_slots) place
slot_is asides slots old_slots place old len within is left =
    ap (stored_event (aside_at asides place)) is ∙ sym (stored_at asides slots place old within) ∙ left

pub take_unmarked-requires : goal.take_unmarked-requires
take_unmarked-requires c =
    let events = stored_events c.args.asides.now c.args.slots.now.items in
    let place = c.loop-place.place in
    let h = c.loop-place.invariant in
    let size = stored_size c.args.asides.now c.args.slots.now.items in
    let old = c.at_mut-slot.result.now in
    let before : place < length c.args.slots.now.items = omega (arith, c.loop-place-test.true, c.len-place-end.ensures) in
    let is = slot_is c.args.asides.now c.loop-place.slots.items c.args.slots.now.items place old h.len (omega (arith, before, h.len))
    c.at_mut-slot.ensures.value (h.left place (omega arith)) in
    subst (λ (e : LogEvent). IsMessageBelow (length c.args.sent.now) e.kind) (sym is)
    (numbered_at (length c.args.sent.now) events c.requires.numbered place (omega (arith, before, size))).message

-- an event that is sent is in neither count
never : (told : Bool) → (if told then false else false) ≡ false
never true = refl
never false = refl

pub loop-place-preserved : goal.loop-place-preserved
loop-place-preserved c =
    let asides = c.args.asides.now in
    let events = stored_events asides c.args.slots.now.items in
    let slots = c.loop-place.slots.items in
    let now = stored_events asides slots in
    let place = c.loop-place.place in
    let h = c.loop-place.invariant in
    let some = stored_size asides slots in
    let many = stored_size asides c.args.slots.now.items in
    let before : place < length c.args.slots.now.items = omega (arith, c.loop-place-test.true, c.len-place-end.ensures) in
    let old = c.at_mut-slot.result.now in
    let new = c.take_unmarked.new.self in
    let took = c.take_unmarked.ensures in
    let kept = aside_at asides place in
    let is = slot_is asides slots c.args.slots.now.items place old h.len (omega (arith, before, h.len))
    c.at_mut-slot.ensures.value (h.left place (omega arith)) in
    let below : IsMessageBelow (length c.args.sent.now) (kind_by old.role old.message) =
    subst (λ (e : LogEvent). IsMessageBelow (length c.args.sent.now) e.kind) (sym is)
    (numbered_at (length c.args.sent.now) events c.requires.numbered place (omega (arith, before, many))).message in
    let unsent : c.take_unmarked.result ≡ is_unsent events (kind_by old.role old.message) =
    took.value ∙ unmarked_is_unsent events c.args.sent.now c.requires.marks (kind_by old.role old.message) below in
    let becomes = λ (m : MessageId). c.unsent_role.ensures m ∙ ap (λ (o : Option Pair). taken_kind c.args.as_local o (Receive m)) c.carried_at-stamp.ensures in
    let changed : stored_event kept new ≡ taken_event c.args.as_local events (event_at events place) =
    taken_slot c.args.as_local events kept old new c.unsent_role.result becomes c.take_unmarked.result unsent took.taken took.left
    ∙ ap (taken_event c.args.as_local events) is in
    let here : c.take_unmarked.result ≡ is_unsent events (event_at events place).kind =
    unsent ∙ ap (λ (e : LogEvent). is_unsent events e.kind) is in
    let told : is_some c.carried_at-stamp.result ≡ is_some (event_at events place).carried =
    ap is_some c.carried_at-stamp.ensures ∙ ap (λ (e : LogEvent). is_some e.carried) is in
    let p = is_outside events in
    let q = is_untold events in
    let event = event_at events place in
    let after = stored_set asides slots place new in
    let exists : place < length events = omega (arith, before, many) in
    record {
      len = length-set slots place new ∙ h.len;
      taken = subst (λ (xs : List LogEvent). (k : ℕ) → k < place + 1 → event_at xs k ≡ taken_event c.args.as_local events (event_at events k)) (sym after)
          (taken_more (taken_event c.args.as_local events) events now place (stored_event kept new) (omega (arith, before, some, h.len)) h.taken changed);
      left = subst (λ (xs : List LogEvent). (k : ℕ) → place + 1 ≤ k → event_at xs k ≡ event_at events k) (sym after)
          (left_more (taken_event c.args.as_local events) events now place (stored_event kept new) (omega (arith, before, some, h.len)) h.left);
      outside =
          elim c.if-take_unmarked.branch [
            | then-take_unmarked+then-is_some w ↦
                let yes = outside_if events event true true (sym w.if-is_some.true ∙ w.is_some.ensures ∙ told) (sym w.if-take_unmarked.true ∙ here) in
                w.outside-is ∙ ap (λ (n : ℕ). n + 1) h.outside ∙ sym (count_by_more_yes p events place no_event exists yes)
            | then-take_unmarked+else-is_some w ↦
                let no = outside_if events event false true (sym w.if-is_some.false ∙ w.is_some.ensures ∙ told) (sym w.if-take_unmarked.true ∙ here) in
                w.outside-is ∙ h.outside ∙ sym (count_by_more_no p events place no_event exists no)
            | else-take_unmarked w ↦
                let no = outside_if events event (is_some c.carried_at-stamp.result) false told (sym w.if-take_unmarked.false ∙ here) ∙ never (is_some c.carried_at-stamp.result) in
                w.outside-is ∙ h.outside ∙ sym (count_by_more_no p events place no_event exists no)
          ];
      unsent =
          elim c.if-take_unmarked.branch [
            | then-take_unmarked+then-is_some w ↦
                let no = untold_if events event true true (sym w.if-is_some.true ∙ w.is_some.ensures ∙ told) (sym w.if-take_unmarked.true ∙ here) in
                w.unsent-is ∙ h.unsent ∙ sym (count_by_more_no q events place no_event exists no)
            | then-take_unmarked+else-is_some w ↦
                let yes = untold_if events event false true (sym w.if-is_some.false ∙ w.is_some.ensures ∙ told) (sym w.if-take_unmarked.true ∙ here) in
                w.unsent-is ∙ ap (λ (n : ℕ). n + 1) h.unsent ∙ sym (count_by_more_yes q events place no_event exists yes)
            | else-take_unmarked w ↦
                let no = untold_if events event (is_some c.carried_at-stamp.result) false told (sym w.if-take_unmarked.false ∙ here) ∙ never (is_some c.carried_at-stamp.result) in
                w.unsent-is ∙ h.unsent ∙ sym (count_by_more_no q events place no_event exists no)
          ];
    }

pub returns-clause-len : goal.returns-clause-len
returns-clause-len c = c.loop-place.invariant.len

pub returns-clause-events : goal.returns-clause-events
returns-clause-events c =
    let asides = c.args.asides.now in
    let events = stored_events asides c.args.slots.now.items in
    let slots = c.loop-place.slots.items in
    let h = c.loop-place.invariant in
    let some = stored_size asides slots in
    let many = stored_size asides c.args.slots.now.items in
    all_taken (taken_event c.args.as_local events) events (stored_events asides slots) (some ∙ h.len ∙ sym many) (λ k lt.
    h.taken k (omega (arith, lt, many, c.loop-place-test.false, c.len-place-end.ensures)))

pub returns-clause-outside : goal.returns-clause-outside
returns-clause-outside c =
    let events = stored_events c.args.asides.now c.args.slots.now.items in
    let many = stored_size c.args.asides.now c.args.slots.now.items in
    c.loop-place.invariant.outside
    ∙ ap (count_by (is_outside events)) (take_all c.loop-place.place events (omega (arith, many, c.loop-place-test.false, c.len-place-end.ensures)))

pub returns-clause-unsent : goal.returns-clause-unsent
returns-clause-unsent c =
    let events = stored_events c.args.asides.now c.args.slots.now.items in
    let many = stored_size c.args.asides.now c.args.slots.now.items in
    let all : c.loop-place.unsent ≡ count_by (is_untold events) events =
    c.loop-place.invariant.unsent
    ∙ ap (count_by (is_untold events)) (take_all c.loop-place.place events (omega (arith, many, c.loop-place-test.false, c.len-place-end.ensures))) in
    c.counted_if.ensures ∙ ap (λ (n : ℕ). if c.args.as_local then n else 0) all
