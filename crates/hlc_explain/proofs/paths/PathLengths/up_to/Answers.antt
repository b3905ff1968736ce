use Rattle.std.proofs.Common.{◌∙◌, ◌+◌, List, Option, ℕ, length, arith, ap, refl, subst, sym}
use Rattle.std.specs.Prelude.{option_map}
use Rattle.std.proofs.lemmas.List.{length_push}
use Rattle.hlc_stamp.specs.declared.id.EventId.{EventId}
use Rattle.hlc_explain.specs.Paths.{ArePathLengths, path_of}
use Rattle.hlc_explain.proofs.PathLengths.{nothing_known, one_more_known}
use Rattle.hlc_explain.proofs.paths.PathLengths.up_to.Goals as goal

pub loop-place-init : goal.loop-place-init
loop-place-init c =
    let none = c.in_ok-lengths.ensures in
    let size = ap (λ (xs : List (Option ℕ)). length xs) none.items in
    record {
      first = refl;
      next = omega (arith, size);
      kept = omega (arith, size);
      room = omega (arith, none.capacity);
      lengths = nothing_known c.args.execution.now.events c.args.first.0 c.in_ok-lengths.lengths.items c.requires.first none.items;
    }

pub next-length-requires-clause-next : goal.next-length-requires-clause-next
next-length-requires-clause-next c =
    let h = c.loop-place.invariant in ap (λ (x : EventId). x.0 + length c.loop-place.known.lengths.items) h.first ∙ h.next

pub next-length-requires-clause-known : goal.next-length-requires-clause-known
next-length-requires-clause-known c =
    let h = c.loop-place.invariant in
    subst (λ (x : EventId). ArePathLengths c.args.execution.now.events x.0 c.loop-place.known.lengths.items) (sym h.first) h.lengths

pub push_reserved-requires : goal.push_reserved-requires
push_reserved-requires c = let h = c.loop-place.invariant in omega (arith, h.next, h.room, c.loop-place-test.true)

pub loop-place-preserved : goal.loop-place-preserved
loop-place-preserved c =
    let s = c.args.execution.now.events in
    let h = c.loop-place.invariant in
    let old : List (Option ℕ) = c.loop-place.known.lengths.items in
    let pushed = c.push_reserved.ensures in
    let longer = ap (λ (xs : List (Option ℕ)). length xs) pushed.items in
    let size = length_push old c.next-length.result in
    let is = c.next-length.ensures ∙ ap (λ (x : EventId). option_map (λ (path : List ℕ). length path) (path_of s x.0 c.loop-place.place)) h.first in
    record {
      first = h.first;
      next = omega (arith, h.next, longer, size);
      kept = omega (arith, h.next, longer, size, c.loop-place-test.true);
      room = omega (arith, h.room, pushed.capacity);
      lengths = one_more_known s c.args.first.0 c.loop-place.place old c.push_reserved.new.self.items c.next-length.result h.lengths h.next is pushed.items;
    }

pub returns-clause-first : goal.returns-clause-first
returns-clause-first c = c.loop-place.invariant.first

pub returns-clause-lengths : goal.returns-clause-lengths
returns-clause-lengths c = c.loop-place.invariant.lengths

pub returns-clause-len : goal.returns-clause-len
returns-clause-len c = let h = c.loop-place.invariant in omega (arith, h.next, h.kept, c.loop-place-test.false)
