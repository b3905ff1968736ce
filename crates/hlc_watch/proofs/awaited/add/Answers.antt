use Rattle.std.proofs.Common.{◌≡◌, ◌∙◌, ◌-◌, ◌≤◌, ◌++◌, [], ◌∷◌, arith, length, ap, sym}
use Rattle.std.specs.Prelude.{false, is_some, bytes_eq}
use Rattle.std.specs.Map.{lookup}
use Rattle.lru.specs.LruCache.{LruCache}
use Rattle.hlc_watch.specs.Lists.{lists_of}
use Rattle.hlc_watch.proofs.ListsKept.{pushed_first, put_first}
use Rattle.hlc_watch.proofs.awaited.add.Goals as goal

pub returns-then-contains-clause-waits : goal.returns-then-contains-clause-waits
returns-then-contains-clause-waits g c =
    ap (λ (cache : LruCache _ _). lists_of cache.entries) c.promote.ensures.entries
    ∙ pushed_first c.args.message c.args.receives.now.entries c.push_to.new.receives.entries c.args.records (sym c.contains.ensures ∙ c.if-contains.true)
    c.in_ok-push_to.ensures.waits

pub returns-clause-waits : goal.returns-clause-waits
returns-clause-waits g c =
    let es = c.args.receives.now.entries in
    let cap = c.args.receives.now.cap in
    let is_cap = c.requires in
    let fits = c.len-has_room.ensures.fits in
    let len = c.len-has_room.ensures.len in
    let few : length es ≤ cap - 1 = omega arith in
    let none : is_some (lookup (bytes_eq c.args.message) es) ≡ false = sym c.contains.ensures ∙ c.if-contains.false in
    ap (λ (cache : LruCache _ _). lists_of cache.entries) c.in_ok-put.ensures.entries
    ∙ put_first c.args.message cap es c.push.new.self c.args.records few (c.in_ok-push.ensures.items ∙ ap (λ ws. ws ++ c.args.records ∷ []) c.in_ok-first.ensures.items) none
