use Rattle.std.proofs.Common.{◌≡◌, ◌∙◌, ◌-◌, List, ℕ, [], arith, length, take, ap, sym}
use Rattle.lru.specs.LruCache.{LruCache}
use Rattle.hlc_watch.specs.declared.records.Records.{Records}
use Rattle.hlc_watch.specs.Kept.{receive_count}
use Rattle.hlc_watch.specs.Lists.{lists_of}
use Rattle.hlc_watch.proofs.ListsKept.{last_count, length_lists, none_last, take_lists}
use Rattle.hlc_watch.proofs.awaited.Awaited.forget.Goals as goal

pub overflow_sub-self : goal.overflow_sub-self
overflow_sub-self g c =
    let es = c.self.inside.receives.entries in
    let taken = last_count es (c.in-Some.field-0-0, c.in-Some.forgotten) (sym c.pop_lru.ensures.value ∙ c.in-Some.is) in
    let len = c.len.ensures in
    let size = c.in-Some.forgotten.ok.0 in
    let count = c.self.invariant.count_is in
    omega arith

pub invariant_of-self : goal.invariant_of-self
invariant_of-self g c =
    let es = c.self.inside.receives.entries in
    let taken = last_count es (c.in-Some.field-0-0, c.in-Some.forgotten) (sym c.pop_lru.ensures.value ∙ c.in-Some.is) in
    let len = c.len.ensures in
    let size = c.in-Some.forgotten.ok.0 in
    let count = c.self.invariant.count_is in
    let left : c.self.inside.count - c.len.result ≡ receive_count (lists_of (take (length es - 1) es)) = omega arith in
    record {
      count_is = left ∙ ap (λ (cache : LruCache _ _). receive_count (lists_of cache.entries)) (sym c.pop_lru.ensures.entries);
      unbounded = ap (λ (cache : LruCache _ _). cache.cap) c.pop_lru.ensures.entries ∙ c.self.invariant.unbounded;
    }

pub invariant_of-self-in-None : goal.invariant_of-self-in-None
invariant_of-self-in-None g c =
    let es = c.self.inside.receives.entries in
    let none : es ≡ [] = none_last es (sym c.pop_lru.ensures.value ∙ c.in-None.is) in
    let same : take (length es - 1) es ≡ es = ap (λ fs. take (length fs - 1) fs) none ∙ sym none in
    record {
      count_is = c.self.invariant.count_is ∙ ap (λ fs. receive_count (lists_of fs)) (sym same)
          ∙ ap (λ (cache : LruCache _ _). receive_count (lists_of cache.entries)) (sym c.pop_lru.ensures.entries);
      unbounded = ap (λ (cache : LruCache _ _). cache.cap) c.pop_lru.ensures.entries ∙ c.self.invariant.unbounded;
    }

pub returns-in-Some-clause-others : goal.returns-in-Some-clause-others
returns-in-Some-clause-others g c =
    let es = c.self.inside.receives.entries in
    ap (λ (cache : LruCache _ _). lists_of cache.entries) c.pop_lru.ensures.entries ∙ take_lists (length es - 1) es
    ∙ ap (λ (n : ℕ). take (n - 1) (lists_of es)) (sym (length_lists es)) ∙ ap (λ (ls : List (List ℕ × List Records)). take (length ls - 1) ls) c.self.view_is

pub returns-in-Some-clause-count : goal.returns-in-Some-clause-count
returns-in-Some-clause-count g c =
    let es = c.self.inside.receives.entries in
    let taken = last_count es (c.in-Some.field-0-0, c.in-Some.forgotten) (sym c.pop_lru.ensures.value ∙ c.in-Some.is) in
    let len = c.len-in-Some.ensures in
    let size = c.in-Some.forgotten.ok.0 in
    let new = ap (λ (cache : LruCache _ _). receive_count (lists_of cache.entries)) c.pop_lru.ensures.entries in
    let old = ap (λ ls. receive_count ls) c.self.view_is in
    omega arith
