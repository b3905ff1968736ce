use Rattle.std.proofs.Common.{◌≡◌, ◌∙◌, ℕ, length, replicate, None, subst, sym, ap}
use Rattle.std.specs.Prelude.{All}
use Rattle.hlc_log.specs.Events.{IsNumbered}
use Rattle.hlc_log.proofs.ReceiveLinks.{nothing_received}
use Rattle.hlc_log.proofs.receive_links.ReceiveLinks.new.Goals as goal

pub link_all-requires-clause-numbered : goal.link_all-requires-clause-numbered
link_all-requires-clause-numbered c =
    subst (λ (n : ℕ). All (IsNumbered n) c.args.log.now.events) (sym (sym c.in_ok-firsts.firsts.ok.0 ∙ c.in_ok-firsts.ensures.len)) c.requires

pub link_all-requires-clause-none : goal.link_all-requires-clause-none
link_all-requires-clause-none c =
    let events = c.args.log.now.events in
    let n = c.args.messages in
    let next = c.in_ok-next.next.items in
    let len : length next ≡ length events = sym c.in_ok-next.next.ok.0 ∙ c.in_ok-next.ensures.len ∙ c.len.ensures.value in
    let items : c.in_ok-firsts.firsts.items ≡ replicate n None =
    c.in_ok-firsts.ensures.items_if_clones_equal (λ y h. h) ∙ ap (replicate n) c.none.ensures in
    rw items (nothing_received events n next len)

pub returns-clause-messages : goal.returns-clause-messages
returns-clause-messages c = c.link_all.ensures.messages ∙ sym c.in_ok-firsts.firsts.ok.0 ∙ c.in_ok-firsts.ensures.len

pub returns-clause-linked : goal.returns-clause-linked
returns-clause-linked c = c.link_all.ensures.linked
