use Rattle.std.proofs.Common.{◌≡◌, ◌+◌, ◌∙◌, length, replicate, set, None, Some, arith, refl, subst, sym, ap}
use Rattle.std.specs.Prelude.{is_some}
use Rattle.std.proofs.lemmas.List.{get_or_read, length-replicate, length-set}
use Rattle.hlc_stamp.specs.declared.id.EventId.{EventId}
use Rattle.hlc_log.specs.Messages.{Sends}
use Rattle.hlc_log.specs.SendLinks.{AreSendLinks, link_at}
use Rattle.hlc_log.proofs.Numbered.{send_below}
use Rattle.hlc_log.proofs.SentMessages.{linked_nowhere, linked_somewhere, links_over, links_with, no_links, sends_again}
use Rattle.hlc_log.proofs.sends.sends_of.Goals as goal
use Rattle.hlc_log.proofs.sends.sends_of.Goals.{in-Send+else-is_some, in_default}

pub loop-place-init : goal.loop-place-init
loop-place-init c =
    let n = c.args.messages in
    let items : c.in_ok-sends.sends.items ≡ replicate n None =
    c.in_ok-sends.ensures.items_if_clones_equal (λ y h. h) ∙ ap (replicate n) c.none.ensures in
    record {
      len = rw items (length-replicate n None);
      links = subst (AreSendLinks c.args.log.now.events 0) (sym items) (no_links c.args.log.now.events n);
    }

pub loop-place-preserved : goal.loop-place-preserved
loop-place-preserved c =
    let events = c.args.log.now.events in
    let links = c.loop-place.sends.items in
    let place = c.loop-place.place in
    let size = c.len-place-end.ensures.value in
    let before = c.loop-place.invariant in
    elim c.match-kind_at.branch [
      | in-Send+else-is_some w ↦
          let m = w.in-Send.message.0 in
          let sends : Sends events place m =
          record { exists = omega (arith, c.loop-place-test.true); kind = sym c.kind_at.ensures ∙ w.in-Send.is } in
          let below = send_below c.args.messages events c.requires place m sends in
          let len = before.len in
          let none = linked_nowhere w.index.result.now (sym (ap is_some w.event.ensures) ∙ sym w.is_some.ensures ∙ w.if-is_some.false) in
          let first : link_at links m ≡ None =
          sym (get_or_read links m w.index.result.now (omega arith) w.index.ensures None) ∙ none in
          let event : EventId = record { 0 = place } in
          let items : c.match-kind_at.sends.items ≡ set links m (Some event) =
          ap (λ v. v.items) w.sends-is ∙ ap (set links m) w.to.ensures in
          record {
            len = ap length items ∙ length-set links m (Some event) ∙ before.len;
            links = subst (AreSendLinks events (place + 1)) (sym items)
                (links_with events place links m event refl sends first before.links);
          }
      | in_default w ↦
          record {
            len = ap (λ v. length v.items) w.sends-is ∙ before.len;
            links = subst (λ v. AreSendLinks events (place + 1) v.items) (sym w.sends-is)
                (links_over events place links (λ m sends.
                w.in_default.not-Send _ (c.kind_at.ensures ∙ sends.kind)) before.links);
          }
    ]

pub returns-then-is_some-clause-fault : goal.returns-then-is_some-clause-fault
returns-then-is_some-clause-fault c =
    let events = c.args.log.now.events in
    let links = c.loop-place.sends.items in
    let place = c.loop-place.place in
    let m = c.in-Send.message.0 in
    let size = c.len-place-end.ensures.value in
    let sends : Sends events place m =
    record { exists = omega (arith, c.loop-place-test.true); kind = sym c.kind_at.ensures ∙ c.in-Send.is } in
    let linked = linked_somewhere c.index.result.now (sym (ap is_some c.event.ensures) ∙ sym c.is_some.ensures ∙ c.if-is_some.true) in
    let below = send_below c.args.messages events c.requires place m sends in
    let len = c.loop-place.invariant.len in
    let first : link_at links m ≡ Some linked.0 =
    sym (get_or_read links m c.index.result.now (omega arith) c.index.ensures None) ∙ linked.1 in
    sends_again events place c.args.messages links c.loop-place.invariant.len c.requires c.loop-place.invariant.links m linked.0 sends first

pub returns-then-is_some-clause-memory : goal.returns-then-is_some-clause-memory
returns-then-is_some-clause-memory c = λ sound. absurd (sound.once c.loop-place.place (returns-then-is_some-clause-fault c).has)
