use Rattle.std.proofs.Common.{◌≡◌, ◌∙◌, ◌<◌, Bool, false, true, ℕ, List, length, arith, ap, subst, sym}
use Rattle.std.specs.Prelude.{All}
use Rattle.std.specs.List.{filter}
use Rattle.std.proofs.lemmas.List.{length-map}
use Rattle.std.proofs.lemmas.Result.{err_from_is_err_and}
use Rattle.hlc_stamp.specs.declared.id.EventId.{EventId}
use Rattle.hlc_stamp.specs.Ids.{places_of}
use Rattle.hlc_causality.specs.Places.{places_below}
use Rattle.hlc_log.specs.CausalOrder.{Waits}
use Rattle.hlc_log.specs.Events.{IsNumbered}
use Rattle.hlc_log.specs.Parted.{AreThoseWith, is_marked}
use Rattle.hlc_log.specs.StandingOrder.{arranged}
use Rattle.hlc_log.specs.declared.log_event.LogEvent.{LogEvent}
use Rattle.hlc_log.proofs.CopiedLogs.{arranged_all, copied, ids_below}
use Rattle.hlc_log.proofs.KeptEvents.{AreMarks, few_marked, marked_are_kept, only_memory_left, those_exist, unmarked_are_left}
use Rattle.hlc_log.proofs.parted.part.Goals as goal

-- the places with a mark, as the marks are seen
marked_places : (ids : List EventId) (seen marks : List Bool) (mark : Bool) (n m : ℕ)
    → places_of ids ≡ filter (is_marked seen mark) (places_below (length seen)) → seen ≡ marks → length marks ≡ n → n ≡ m
    → places_of ids ≡ filter (is_marked marks mark) (places_below m)
marked_places ids seen marks mark n m are same size is =
    are ∙ ap (λ (bs : List Bool). filter (is_marked bs mark) (places_below (length bs))) same
    ∙ ap (λ (k : ℕ). filter (is_marked marks mark) (places_below k)) (size ∙ is)

pub marks-requires : goal.marks-requires
marks-requires c =
    subst (λ (ids : List EventId). All (λ (id : EventId). id.0 < c.len.result) ids) (sym c.deref.ensures.value)
    (ids_below c.in_ok-order.order.items c.len.result (λ k lt. omega (arith, (c.in_ok-order.ensures.order.causal k lt).exists, c.len.ensures.value)))

pub arranged-requires-clause-few : goal.arranged-requires-clause-few
arranged-requires-clause-few c =
    let events = c.args.log.now.events in
    let order = places_of c.in_ok-order.order.items in
    let marks = c.in_ok-has_place.has_place.items in
    let kept = c.in_ok-kept.kept.items in
    let are = subst (λ (ids : List EventId). AreMarks ids marks) c.deref.ensures.value c.in_ok-has_place.ensures.marks in
    let is = marked_places kept c.deref-2.result.now marks true c.len.result (length events) c.in_ok-kept.ensures c.deref-2.ensures.value
    c.in_ok-has_place.ensures.len c.len.ensures.value in
    omega (
      arith,
      few_marked events order marks c.in_ok-order.ensures.order are,
      ap (λ (xs : List ℕ). length xs) is,
      length-map kept (λ (id : EventId). id.0),
      ap (λ (xs : List EventId). length xs) c.deref-4.ensures.value,
      c.len.ensures.few,
      c.len.ensures.value,
    )

pub arranged-requires-clause-exist : goal.arranged-requires-clause-exist
arranged-requires-clause-exist c =
    let events = c.args.log.now.events in
    let order = places_of c.in_ok-order.order.items in
    let marks = c.in_ok-has_place.has_place.items in
    let kept = c.in_ok-kept.kept.items in
    let are = subst (λ (ids : List EventId). AreMarks ids marks) c.deref.ensures.value c.in_ok-has_place.ensures.marks in
    let is = marked_places kept c.deref-2.result.now marks true c.len.result (length events) c.in_ok-kept.ensures c.deref-2.ensures.value
    c.in_ok-has_place.ensures.len c.len.ensures.value in
    let those = subst (AreThoseWith (length events) (λ e. ¬ Waits events e)) (sym is)
    (marked_are_kept events order marks c.in_ok-order.ensures.order are) in
    subst (λ (ids : List EventId). All (λ (id : EventId). id.0 < length events) ids) (sym c.deref-4.ensures.value)
    (ids_below kept (length events) (those_exist (length events) (λ e. ¬ Waits events e) (places_of kept) those))

pub causal_order-requires : goal.causal_order-requires
causal_order-requires c =
    let events = c.args.log.now.events in
    let order = places_of c.in_ok-order.order.items in
    let marks = c.in_ok-has_place.has_place.items in
    let kept = c.in_ok-kept.kept.items in
    let are = subst (λ (ids : List EventId). AreMarks ids marks) c.deref.ensures.value c.in_ok-has_place.ensures.marks in
    let is = marked_places kept c.deref-2.result.now marks true c.len.result (length events) c.in_ok-kept.ensures c.deref-2.ensures.value
    c.in_ok-has_place.ensures.len c.len.ensures.value in
    let those = subst (AreThoseWith (length events) (λ e. ¬ Waits events e)) (sym is)
    (marked_are_kept events order marks c.in_ok-order.ensures.order are) in
    let rest = copied events c.in_ok-rest.rest.events c.deref-4.result.now kept c.in_ok-rest.ensures c.deref-4.ensures.value in
    subst (λ (es : List LogEvent). All (IsNumbered c.args.messages) es) (sym rest)
    (arranged_all (IsNumbered c.args.messages) events (places_of kept) (those_exist (length events) (λ e. ¬ Waits events e) (places_of kept) those)
    c.requires.numbered)

pub returns-in_err-order-2-clause-memory : goal.returns-in_err-order-2-clause-memory
returns-in_err-order-2-clause-memory c =
    let events = c.args.log.now.events in
    let order = places_of c.in_ok-order.order.items in
    let marks = c.in_ok-has_place.has_place.items in
    let kept = c.in_ok-kept.kept.items in
    let are = subst (λ (ids : List EventId). AreMarks ids marks) c.deref.ensures.value c.in_ok-has_place.ensures.marks in
    let is = marked_places kept c.deref-2.result.now marks true c.len.result (length events) c.in_ok-kept.ensures c.deref-2.ensures.value
    c.in_ok-has_place.ensures.len c.len.ensures.value in
    let rest = copied events c.in_ok-rest.rest.events c.deref-4.result.now kept c.in_ok-rest.ensures c.deref-4.ensures.value ∙ ap (arranged events) is in
    let from = err_from_is_err_and c.from_residual-in_err-order-2.result c.from_residual-in_err-order-2.ensures.1 in
    rw from.1 (from.2 ∙ only_memory_left events order marks c.in_ok-order.ensures.order are c.in_ok-rest.rest.events rest c.requires.sound _ c.in_err-order-2.ensures.fault)

pub returns-clause-parted : goal.returns-clause-parted
returns-clause-parted c =
    let events = c.args.log.now.events in
    let order = places_of c.in_ok-order.order.items in
    let marks = c.in_ok-has_place.has_place.items in
    let are = subst (λ (ids : List EventId). AreMarks ids marks) c.deref.ensures.value c.in_ok-has_place.ensures.marks in
    let size = c.in_ok-has_place.ensures.len in
    let n = c.len.ensures.value in
    let kept = marked_places c.in_ok-kept.kept.items c.deref-2.result.now marks true c.len.result (length events) c.in_ok-kept.ensures
    c.deref-2.ensures.value size n in
    let left = marked_places c.in_ok-left_out.left_out.items c.deref-3.result.now marks false c.len.result (length events) c.in_ok-left_out.ensures
    c.deref-3.ensures.value size n in
    record {
      sound = c.requires.sound;
      kept_are = subst (AreThoseWith (length events) (λ e. ¬ Waits events e)) (sym kept)
          (marked_are_kept events order marks c.in_ok-order.ensures.order are);
      left_are = subst (AreThoseWith (length events) (Waits events)) (sym left) (unmarked_are_left events order marks c.in_ok-order.ensures.order are);
    }
