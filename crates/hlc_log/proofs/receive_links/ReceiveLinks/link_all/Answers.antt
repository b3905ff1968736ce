use Rattle.std.proofs.Common.{◌≡◌, ◌∙◌, ◌-◌, ◌+◌, ◌<◌, ℕ, None, length, arith, refl, subst, sym}
use Rattle.std.proofs.lemmas.List.{get_or_read, length-set}
use Rattle.hlc_stamp.specs.declared.id.EventId.{EventId}
use Rattle.hlc_log.specs.Messages.{Receives}
use Rattle.hlc_log.specs.ReceiveLinks.{AreReceivesLinked}
use Rattle.hlc_log.proofs.Numbered.{receive_below}
use Rattle.hlc_log.proofs.ReceiveLinks.{receives_over, receives_with}
use Rattle.hlc_log.proofs.receive_links.ReceiveLinks.link_all.Goals as goal

pub loop-place-preserved-in-Receive : goal.loop-place-preserved-in-Receive
loop-place-preserved-in-Receive c =
    let events = c.args.log.now.events in
    let firsts = c.loop-place.self.firsts.items in
    let next = c.loop-place.self.next.items in
    let low = c.loop-place.place - 1 in
    let message = c.in-Receive.message.0 in
    let exists : low < length events =
    let some = c.loop-place-test.true in let within = c.loop-place.auto.place in let size = c.len-place.ensures.value in omega arith in
    let later : c.loop-place.place ≡ low + 1 = let some = c.loop-place-test.true in omega arith in
    let before = subst (λ (n : ℕ). AreReceivesLinked events n firsts next) later c.loop-place.invariant.linked in
    let receives : Receives events low message = record { exists = exists; kind = sym c.kind_at.ensures ∙ c.in-Receive.is } in
    let known = receive_below (length c.args.self.now.firsts.items) events c.requires.numbered low message receives in
    let below : message < length firsts = let len = c.loop-place.invariant.len in omega arith in
    let event : EventId = record { 0 = low } in
    let read = get_or_read firsts message c.index.result.now below c.index.ensures None in
    record {
      len = length-set firsts message _ ∙ c.loop-place.invariant.len;
      linked = rw (c.to.ensures, read) (receives_with events low firsts next before message event refl receives below);
    }

pub loop-place-preserved : goal.loop-place-preserved
loop-place-preserved c =
    let events = c.args.log.now.events in
    let low = c.loop-place.place - 1 in
    let later : c.loop-place.place ≡ low + 1 = let some = c.loop-place-test.true in omega arith in
    let before = subst (λ (n : ℕ). AreReceivesLinked events n c.loop-place.self.firsts.items c.loop-place.self.next.items) later c.loop-place.invariant.linked in
    record {
      len = c.loop-place.invariant.len;
      linked = receives_over events low c.loop-place.self.firsts.items c.loop-place.self.next.items before
          (λ m receives. c.in_default.not-Receive (record { 0 = m }) (c.kind_at.ensures ∙ receives.kind));
    }
