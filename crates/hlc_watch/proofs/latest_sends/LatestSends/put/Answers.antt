use Rattle.std.proofs.Common.{◌≡◌, ◌∙◌, ◌+◌, ◌%◌, ◌<◌, ◌≤◌, List, ℕ, arith, ap, length}
use Rattle.std.specs.Prelude.{bytes_eq}
use Rattle.std.specs.List.{swap_remove}
use Rattle.indexmap.specs.IndexMap.{insert_entry}
use Rattle.hlc_watch.specs.declared.records.Claimed.{Claimed}
use Rattle.hlc_watch.specs.Kept.{KeptSends, with_sent}
use Rattle.hlc_watch.specs.Ring.{items_from}
use Rattle.hlc_watch.proofs.Rings.{if_there, put_kept, put_over}
use Rattle.hlc_watch.proofs.latest_sends.LatestSends.put.Goals as goal

pub returns-else-len-self-clause-kept : goal.returns-else-len-self-clause-kept
returns-else-len-self-clause-kept g c =
    let inside = c.self.inside in
    let room : length (insert_entry bytes_eq inside.claims.entries c.args.message c.args.claimed) ≤ inside.keep =
    (let size = c.len.ensures.len in let is = ap length c.in_ok-insert.ensures.entries in let no = c.if-len-self.false in omega arith) in
    (λ i. record { sends = items_from inside.first (c.in_ok-insert.ensures.entries i); keep = inside.keep })
    ∙ ap (λ entries. record { sends = entries; keep = inside.keep }) (put_kept c.args.message c.args.claimed inside.keep inside.first inside.claims.entries c.self.invariant room)
    ∙ ap (λ (kept : KeptSends). with_sent kept c.args.message c.args.claimed) c.self.view_is

pub returns-then-len-self-clause-kept : goal.returns-then-len-self-clause-kept
returns-then-len-self-clause-kept g c =
    let inside = c.self.inside in
    let m = c.args.message in
    let v = c.args.claimed in
    let grown = c.in_ok-insert.ensures.entries in
    let put : List (List ℕ × Claimed) = insert_entry bytes_eq inside.claims.entries m v in
    let size = ap length grown in
    let over : inside.keep < length put = (let len = c.len.ensures.len in let yes = c.if-len-self.true in omega arith) in
    let within : inside.first < length c.insert.new.self.entries = (let begins = c.self.invariant.begins in omega arith) in
    let went = if_there (λ p. c.swap_remove_index.new.self.entries ≡ swap_remove c.insert.new.self.entries inside.first p)
    c.insert.new.self.entries inside.first c.swap_remove_index.result within c.swap_remove_index.ensures.entry c.swap_remove_index.ensures.entries in
    let next : c.swap_remove_index.new.self.entries ≡ swap_remove put inside.first went.0 = went.1 ∙ ap (λ es. swap_remove es inside.first went.0) grown in
    (λ i. record { sends = items_from ((inside.first + 1) % inside.keep) (next i); keep = inside.keep })
    ∙ ap (λ entries. record { sends = entries; keep = inside.keep }) (put_over m v inside.keep inside.first inside.claims.entries c.self.invariant over went.0)
    ∙ ap (λ (kept : KeptSends). with_sent kept m v) c.self.view_is
