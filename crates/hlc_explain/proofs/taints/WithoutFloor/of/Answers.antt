use Rattle.std.proofs.Common.{◌∙◌, ◌+◌, List, length, arith, ap, refl, subst, sym}
use Rattle.std.proofs.lemmas.List.{length_push}
use Rattle.hlc_stamp.specs.declared.id.EventId.{EventId}
use Rattle.hlc_stamp.specs.Order.{Pair}
use Rattle.hlc_causality.specs.Assignment.{pair_at}
use Rattle.hlc_execution.specs.Execution.{clock_of}
use Rattle.hlc_explain.specs.Taints.{ArePairsWithout, least_without}
use Rattle.hlc_explain.proofs.LeastWithout.{nothing_kept, one_more_kept}
use Rattle.hlc_explain.proofs.taints.WithoutFloor.of.Goals as goal

pub loop-place-init : goal.loop-place-init
loop-place-init c =
    let none = c.in_ok-stamps.ensures in
    let size = ap (λ (xs : List Pair). length xs) none.items in
    record {
      event = refl;
      next = omega (arith, size);
      room = omega (arith, none.capacity);
      stamps = nothing_kept (clock_of c.args.execution.now) c.args.event.0 c.in_ok-stamps.stamps.items none.items;
    }

pub next-stamp-requires-clause-exists : goal.next-stamp-requires-clause-exists
next-stamp-requires-clause-exists c = omega (arith, c.loop-place-test.true, c.len-len.ensures.value)

pub next-stamp-requires-clause-next : goal.next-stamp-requires-clause-next
next-stamp-requires-clause-next c =
    let h = c.loop-place.invariant in ap (λ (x : EventId). x.0 + length c.loop-place.without.stamps.items) h.event ∙ h.next

pub next-stamp-requires-clause-known : goal.next-stamp-requires-clause-known
next-stamp-requires-clause-known c =
    let h = c.loop-place.invariant in
    subst (λ (x : EventId). ArePairsWithout (clock_of c.args.execution.now) x.0 c.loop-place.without.stamps.items) (sym h.event) h.stamps

pub push_reserved-requires : goal.push_reserved-requires
push_reserved-requires c = let h = c.loop-place.invariant in omega (arith, h.next, h.room, c.loop-place-test.true)

pub loop-place-preserved : goal.loop-place-preserved
loop-place-preserved c =
    let t = clock_of c.args.execution.now in
    let h = c.loop-place.invariant in
    let old : List Pair = c.loop-place.without.stamps.items in
    let pushed = c.push_reserved.ensures in
    let longer = ap (λ (xs : List Pair). length xs) pushed.items in
    let size = length_push old c.next-stamp.result in
    let is = c.next-stamp.ensures ∙ ap (λ (x : EventId). pair_at (least_without t x.0) c.loop-place.place) h.event in
    record {
      event = h.event;
      next = omega (arith, h.next, longer, size);
      room = omega (arith, h.room, pushed.capacity);
      stamps = one_more_kept t c.args.event.0 c.loop-place.place old c.push_reserved.new.self.items c.next-stamp.result h.stamps h.next is pushed.items;
    }

pub returns-clause-event : goal.returns-clause-event
returns-clause-event c = c.loop-place.invariant.event

pub returns-clause-stamps : goal.returns-clause-stamps
returns-clause-stamps c = c.loop-place.invariant.stamps

pub returns-clause-len : goal.returns-clause-len
returns-clause-len c =
    let h = c.loop-place.invariant in
    omega (arith, h.next, c.loop-place-test.false, c.loop-place.auto.place-end, c.len-len.ensures.value, c.requires.exists)
