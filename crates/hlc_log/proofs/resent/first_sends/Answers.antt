use Rattle.std.proofs.Common.{◌≡◌, ◌∙◌, ◌+◌, ◌<◌, ℕ, false, true, length, replicate, set, None, Some, arith, refl, subst, sym, ap}
use Rattle.std.specs.Prelude.{is_some}
use Rattle.std.proofs.lemmas.List.{get_or_read, length-replicate, length-set}
use Rattle.hlc_stamp.specs.declared.id.EventId.{EventId}
use Rattle.hlc_log.specs.declared.log_event.LogKind.TheVariants.{Send}
use Rattle.hlc_log.specs.declared.message_id.MessageId.{MessageId}
use Rattle.hlc_log.specs.Events.{event_at}
use Rattle.hlc_log.specs.Resent.{AreFirstSends}
use Rattle.hlc_log.specs.SendLinks.{link_at}
use Rattle.hlc_log.proofs.Numbered.{send_below}
use Rattle.hlc_log.proofs.ResentSends.{count_more, first_links_known, first_links_new, first_links_over, is_again, is_first, is_none, no_first_links}
use Rattle.hlc_log.proofs.resent.first_sends.Goals as goal
use Rattle.hlc_log.proofs.resent.first_sends.Goals.{in-Send+else-is_some, in-Send+then-is_some, in_default}

pub loop-place-init : goal.loop-place-init
loop-place-init c =
    let n = c.args.messages in
    let items : c.in_ok-links.links.items ≡ replicate n None =
    c.in_ok-links.ensures.items_if_clones_equal (λ y h. h) ∙ ap (replicate n) c.none.ensures in
    record {
      len = rw items (length-replicate n None);
      links = subst (AreFirstSends c.args.log.now.events 0) (sym items) (no_first_links c.args.log.now.events n);
      resent = refl;
      few = omega arith;
    }

pub loop-place-preserved : goal.loop-place-preserved
loop-place-preserved c =
    let events = c.args.log.now.events in
    let links = c.loop-place.links.items in
    let place = c.loop-place.place in
    let size = c.len-place-end.ensures.value in
    let h = c.loop-place.invariant in
    let exists : place < length events = omega arith in
    elim c.match-kind_at.branch [
      | in-Send+then-is_some w ↦
          let m = w.in-Send.message in
          let is : (event_at events place).kind ≡ Send m = sym c.kind_at.ensures ∙ w.in-Send.is in
          let below = send_below c.args.messages events c.requires place m.0 (record { exists = exists; kind = is }) in
          let len = h.len in
          let within : m.0 < length links = omega arith in
          let known : is_some (link_at links m.0) ≡ true =
          ap is_some (sym (get_or_read links m.0 w.index.result.now within w.index.ensures None)) ∙ sym (ap is_some w.event.ensures)
          ∙ sym w.is_some.ensures ∙ w.if-is_some.true in
          let count = count_more events place true (is_again events place links h.links m is within (omega arith) known) in
          let before = h.resent in
          let few = h.few in
          record {
            len = ap (λ v. length v.items) w.links-is ∙ h.len;
            links = subst (λ v. AreFirstSends events (place + 1) v.items) (sym w.links-is)
                (first_links_known events place links h.links m is within known);
            resent = w.resent-is ∙ ap (λ (n : ℕ). n + 1) h.resent ∙ sym count;
            few = let now = w.resent-is in omega arith;
          }
      | in-Send+else-is_some w ↦
          let m = w.in-Send.message in
          let is : (event_at events place).kind ≡ Send m = sym c.kind_at.ensures ∙ w.in-Send.is in
          let below = send_below c.args.messages events c.requires place m.0 (record { exists = exists; kind = is }) in
          let len = h.len in
          let within : m.0 < length links = omega arith in
          let new : is_some (link_at links m.0) ≡ false =
          ap is_some (sym (get_or_read links m.0 w.index.result.now within w.index.ensures None)) ∙ sym (ap is_some w.event.ensures)
          ∙ sym w.is_some.ensures ∙ w.if-is_some.false in
          let count = count_more events place false (is_first events place links h.links m is within exists new) in
          let event : EventId = record { 0 = place } in
          let items : c.match-kind_at.links.items ≡ set links m.0 (Some event) =
          ap (λ v. v.items) w.links-is ∙ ap (set links m.0) w.to.ensures in
          let few = h.few in
          record {
            len = ap length items ∙ length-set links m.0 (Some event) ∙ h.len;
            links = subst (AreFirstSends events (place + 1)) (sym items)
                (first_links_new events place links h.links m is within new);
            resent = w.resent-is ∙ h.resent ∙ sym (count ∙ omega arith);
            few = let now = w.resent-is in omega arith;
          }
      | in_default w ↦
          let none : (m : MessageId) → (event_at events place).kind ≡ Send m → ⊥ = λ m is. w.in_default.not-Send m (c.kind_at.ensures ∙ is) in
          let count = count_more events place false (is_none events place links none) in
          let few = h.few in
          record {
            len = ap (λ v. length v.items) w.links-is ∙ h.len;
            links = subst (λ v. AreFirstSends events (place + 1) v.items) (sym w.links-is)
                (first_links_over events place links h.links none);
            resent = w.resent-is ∙ h.resent ∙ sym (count ∙ omega arith);
            few = let now = w.resent-is in omega arith;
          }
    ]
