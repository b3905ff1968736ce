use Rattle.std.proofs.Common.{◌≡◌, ◌∙◌, ℕ, ◌+◌, ◌==◌, [], ◌∷◌, ◌++◌, None, length, List, Option, arith, ap}
use Rattle.std.specs.Prelude.{is_some, not}
use Rattle.std.proofs.lemmas.List.{length_push}
use Rattle.hlc_stamp.specs.Order.{Pair}
use Rattle.hlc_log.specs.declared.asides.Aside.{Aside}
use Rattle.hlc_log.specs.declared.log_event.LogEvent.{LogEvent}
use Rattle.hlc_log.specs.declared.slot.Slot.{Slot}
use Rattle.hlc_log.specs.Log.{StoredLog}
use Rattle.hlc_log.specs.Slots.{stored_event, stored_events, with_carried, with_seq}
use Rattle.hlc_log.proofs.StoredEvents.{put_size, stored_size, stored_with}
use Rattle.hlc_log.proofs.log.Log.push.Goals as goal

pub invariant_of-self-2 : goal.invariant_of-self-2
invariant_of-self-2 c =
    let slots = c.self.inside.slots.items in
    let asides = c.self.inside.asides in
    let seen = ap (λ (log : StoredLog). length log.events) c.self.view_is in
    let size = stored_size asides slots in
    let items = c.push_reserved.ensures.items ∙ ap (λ (xs : List Slot). xs ++ c.new.result ∷ []) c.reserve.ensures.items in
    let now : length c.push_reserved.new.self.items ≡ length slots + 1 =
    ap (λ (xs : List Slot). length xs) items ∙ length_push slots c.new.result in
    let place : c.len.result ≡ length slots = c.len.ensures ∙ ap (λ (xs : List Slot). length xs) c.reserve.ensures.items in
    let aside = c.of.result in
    let kept = ap (λ (xs : List (Option Pair)). length xs) c.in_ok-put.ensures.carried in
    let few = put_size None asides.carried.items c.len.result (omega (arith, place, c.self.invariant.carried_few)) (is_some aside.carried) aside.carried in
    let seqs = ap (λ (xs : List ℕ). length xs) c.in_ok-put.ensures.seqs in
    let few_seqs = put_size 0 asides.seqs.items c.len.result (omega (arith, place, c.self.invariant.seqs_few)) (not (aside.seq == 0)) aside.seq in
    record {
      few = omega (arith, c.requires.few, seen, size, now);
      carried_few = omega (arith, kept, few, place, now);
      seqs_few = omega (arith, seqs, few_seqs, place, now);
    }

pub returns-clause-events : goal.returns-clause-events
returns-clause-events c =
    let slots = c.self.inside.slots.items in
    let asides = c.self.inside.asides in
    let aside = c.of.result in
    let place : c.len.result ≡ length slots = c.len.ensures ∙ ap (λ (xs : List Slot). length xs) c.reserve.ensures.items in
    ap (stored_events c.put.new.self) (c.push_reserved.ensures.items ∙ ap (λ (xs : List Slot). xs ++ c.new.result ∷ []) c.reserve.ensures.items)
    ∙ stored_with asides c.put.new.self slots c.new.result aside c.self.invariant.carried_few c.self.invariant.seqs_few
    (c.in_ok-put.ensures.carried ∙ ap (λ (n : ℕ). with_carried asides.carried.items n aside.carried) place)
    (c.in_ok-put.ensures.seqs ∙ ap (λ (n : ℕ). with_seq asides.seqs.items n aside.seq) place)
    ∙ ap (λ (a : Aside). stored_events asides slots ++ stored_event a c.new.result ∷ []) c.of.ensures
    ∙ ap (λ (event : LogEvent). stored_events asides slots ++ event ∷ []) c.new.ensures
    ∙ ap (λ (log : StoredLog). log.events ++ c.args.event ∷ []) c.self.view_is
