use Rattle.std.proofs.Common.{arith, ◌≡◌, sym, ◌∙◌, None}
use Rattle.hlc_log.specs.Messages.{Receives}
use Rattle.hlc_log.proofs.SentMessages.{each_once, has_no_send, link_read, linked_nowhere, linked_somewhere, not_unsent, one_more_is_sent}
use Rattle.hlc_log.proofs.sends.find_unsent.Goals as goal
use Rattle.hlc_log.proofs.sends.find_unsent.Goals.{in-Receive+else-is_none, in_default}

pub returns-then-is_none : goal.returns-then-is_none
returns-then-is_none c =
    let events = c.args.log.now.events in
    let links = c.args.sends.now in
    let place = c.loop-place.place in
    let m = c.in-Receive.message.0 in
    let size = c.len-place-end.ensures.value in
    let receives : Receives events place m =
    record { exists = omega (arith, c.loop-place-test.true); kind = sym c.kind_at.ensures ∙ c.in-Receive.is } in
    let read = link_read events links c.requires.numbered c.requires.links place m receives c.index-sends-message.result c.index-sends-message.is in
    let none : c.event.result ≡ None = linked_nowhere c.event.result c.if-is_none.ensures in (
      each_once events links c.requires.numbered c.requires.links,
      record {
        has = (m, receives, has_no_send events links c.requires.numbered c.requires.links place m receives (read ∙ sym c.event.ensures ∙ none));
        first = c.loop-place.invariant;
      },
    )

pub loop-place-preserved : goal.loop-place-preserved
loop-place-preserved c =
    let events = c.args.log.now.events in
    let links = c.args.sends.now in
    let place = c.loop-place.place in
    let size = c.len-place-end.ensures.value in
    one_more_is_sent events place c.loop-place.invariant (elim c.match-kind_at.branch [
      | in-Receive+else-is_none w ↦
          let m = w.in-Receive.message.0 in
          let receives : Receives events place m =
          record { exists = omega (arith, c.loop-place-test.true); kind = sym c.kind_at.ensures ∙ w.in-Receive.is } in
          let read = link_read events links c.requires.numbered c.requires.links place m receives w.index-sends-message.result w.index-sends-message.is in
          let linked = linked_somewhere w.event.result w.if-is_none.ensures in
          not_unsent events links c.requires.numbered c.requires.links place m receives linked.0 (read ∙ sym w.event.ensures ∙ linked.1)
      | in_default w ↦ λ unsent. w.in_default.not-Receive _ (c.kind_at.ensures ∙ unsent.1.kind)
    ])

pub returns : goal.returns
returns c =
    let size = c.len-place-end.ensures.value in
    let end = c.loop-place-test.false in
    record {
      once = each_once c.args.log.now.events c.args.sends.now c.requires.numbered c.requires.links;
      sent = λ f unsent. let exists = unsent.1.exists in c.loop-place.invariant f (omega arith) unsent;
    }
