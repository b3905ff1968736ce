use Rattle.std.proofs.Common.{◌≡◌, ◌∙◌, List, ℕ, ap, sym}
use Rattle.std.specs.Prelude.{bytes_eq, false, is_some}
use Rattle.std.specs.Map.{lookup}
use Rattle.hlc_watch.specs.Kept.{after_send, with_sent}
use Rattle.hlc_watch.proofs.Bounds.{bounded_remove}
use Rattle.hlc_watch.proofs.ListsKept.{remove_none}
use Rattle.hlc_watch.proofs.messages.Messages.send.Goals as goal

pub returns-then-not-contains-clause-kept : goal.returns-then-not-contains-clause-kept
returns-then-not-contains-clause-kept g c =
    let inside = c.self.inside in
    let m = c.args.message.now in
    let name_is : c.in_ok-name.name ≡ m = c.in_ok-name.ensures.ok in
    let none : is_some (lookup (bytes_eq m) inside.awaited) ≡ false =
    ap (λ (x : List ℕ). is_some (lookup (bytes_eq x) inside.awaited)) (sym name_is) ∙ sym c.contains.ensures ∙ c.if-not-contains.true in
    let put = c.in_ok-put.ensures.kept ∙ ap (λ (x : List ℕ). with_sent inside.sent x c.args.claimed) name_is in
    (λ i. record { sent = put i; awaited = sym (remove_none m inside.awaited none) i; forgotten = inside.forgotten })
    ∙ ap (λ kept. after_send kept m c.args.claimed) c.self.view_is

pub invariant_of-self-in-Some : goal.invariant_of-self-in-Some
invariant_of-self-in-Some g c =
    rw (c.in_ok-put-2.ensures.kept, c.take.ensures.others, c.in_ok-again.ensures.ok)
    (bounded_remove c.self.inside.sent.keep c.args.message.now c.self.inside.awaited c.self.invariant)
