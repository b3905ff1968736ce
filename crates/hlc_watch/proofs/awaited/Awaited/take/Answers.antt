use Rattle.std.proofs.Common.{◌≡◌, ◌∙◌, ◌-◌, arith, Some, None, ap, sym}
use Rattle.std.specs.Prelude.{bytes_eq, option_map}
use Rattle.std.specs.Map.{lookup, remove_entry}
use Rattle.lru.specs.LruCache.{LruCache}
use Rattle.hlc_watch.specs.Kept.{receive_count}
use Rattle.hlc_watch.specs.Lists.{lists_of}
use Rattle.hlc_watch.proofs.ListsKept.{items_of, lookup_lists, none_taken, remove_lists, taken_count}
use Rattle.hlc_watch.proofs.awaited.Awaited.take.Goals as goal

pub invariant_of-self : goal.invariant_of-self
invariant_of-self g c =
    let es = c.self.inside.receives.entries in
    let none : lookup (bytes_eq c.args.message.now) es ≡ None = sym c.pop.ensures.value ∙ c.in_err-waited.was in
    record {
      count_is = c.self.invariant.count_is ∙ sym (none_taken c.args.message.now es none)
          ∙ ap (λ (cache : LruCache _ _). receive_count (lists_of cache.entries)) (sym c.pop.ensures.entries);
      unbounded = ap (λ (cache : LruCache _ _). cache.cap) c.pop.ensures.entries ∙ c.self.invariant.unbounded;
    }

pub returns-in_err-waited-clause-taken : goal.returns-in_err-waited-clause-taken
returns-in_err-waited-clause-taken g c =
    let es = c.self.inside.receives.entries in
    let none : lookup (bytes_eq c.args.message.now) es ≡ None = sym c.pop.ensures.value ∙ c.in_err-waited.was in
    ap (option_map items_of) c.from_residual.ensures ∙ sym (lookup_lists c.args.message.now es ∙ ap (option_map items_of) none)
    ∙ ap (lookup (bytes_eq c.args.message.now)) c.self.view_is

pub returns-in_err-waited-clause-others : goal.returns-in_err-waited-clause-others
returns-in_err-waited-clause-others g c =
    ap (λ (cache : LruCache _ _). lists_of cache.entries) c.pop.ensures.entries ∙ remove_lists c.args.message.now c.self.inside.receives.entries
    ∙ ap (remove_entry (bytes_eq c.args.message.now)) c.self.view_is

pub overflow_sub-self : goal.overflow_sub-self
overflow_sub-self g c =
    let es = c.self.inside.receives.entries in
    let found : lookup (bytes_eq c.args.message.now) es ≡ Some c.in_ok-waited.waited = sym c.pop.ensures.value ∙ c.in_ok-waited.was in
    let taken = taken_count c.args.message.now es c.in_ok-waited.waited found in
    let len = c.len.ensures in
    let size = c.in_ok-waited.waited.ok.0 in
    let count = c.self.invariant.count_is in
    omega arith

pub invariant_of-self-2 : goal.invariant_of-self-2
invariant_of-self-2 g c =
    let es = c.self.inside.receives.entries in
    let found : lookup (bytes_eq c.args.message.now) es ≡ Some c.in_ok-waited.waited = sym c.pop.ensures.value ∙ c.in_ok-waited.was in
    let taken = taken_count c.args.message.now es c.in_ok-waited.waited found in
    let len = c.len.ensures in
    let size = c.in_ok-waited.waited.ok.0 in
    let count = c.self.invariant.count_is in
    let left : c.self.inside.count - c.len.result ≡ receive_count (lists_of (remove_entry (bytes_eq c.args.message.now) es)) = omega arith in
    record {
      count_is = left ∙ ap (λ (cache : LruCache _ _). receive_count (lists_of cache.entries)) (sym c.pop.ensures.entries);
      unbounded = ap (λ (cache : LruCache _ _). cache.cap) c.pop.ensures.entries ∙ c.self.invariant.unbounded;
    }

pub returns-clause-taken : goal.returns-clause-taken
returns-clause-taken g c =
    let es = c.self.inside.receives.entries in
    let found : lookup (bytes_eq c.args.message.now) es ≡ Some c.in_ok-waited.waited = sym c.pop.ensures.value ∙ c.in_ok-waited.was in
    sym (lookup_lists c.args.message.now es ∙ ap (option_map items_of) found) ∙ ap (lookup (bytes_eq c.args.message.now)) c.self.view_is

pub returns-clause-others : goal.returns-clause-others
returns-clause-others g c =
    ap (λ (cache : LruCache _ _). lists_of cache.entries) c.pop.ensures.entries ∙ remove_lists c.args.message.now c.self.inside.receives.entries
    ∙ ap (remove_entry (bytes_eq c.args.message.now)) c.self.view_is
