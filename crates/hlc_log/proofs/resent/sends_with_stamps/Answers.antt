use Rattle.std.proofs.Common.{◌≡◌, ◌∙◌, false, true, subst, sym, ap, Option, cond, Some}
use Rattle.std.specs.Prelude.{is_some}
use Rattle.std.specs.Map.{lookup}
use Rattle.hlc_stamp.specs.declared.id.EventId.{EventId}
use Rattle.hlc_log.specs.declared.log_event.LogKind.TheVariants.{Send}
use Rattle.hlc_log.specs.declared.resent.SentWith.{SentWith}
use Rattle.hlc_log.specs.Events.{event_at}
use Rattle.hlc_log.specs.Resent.{first_before, is_same_sent_with, sends_with}
use Rattle.hlc_log.proofs.ResentSends.{known_new, known_over, known_stays}
use Rattle.hlc_log.proofs.resent.sends_with_stamps.Goals as goal
use Rattle.hlc_log.proofs.resent.sends_with_stamps.Goals.{in-Send+else-not-contains_key, in-Send+then-not-contains_key+in_ok-insert, in_default}

pub loop-place-preserved : goal.loop-place-preserved
loop-place-preserved c key =
    let events = c.args.log.now.events in
    let place = c.loop-place.place in
    let known : SentWith → Option EventId = λ key. first_before (sends_with key.message.0 key.stamp) events place in
    let before = c.loop-place.invariant key in
    elim c.match-kind_at.branch [
      | in-Send+then-not-contains_key+in_ok-insert w ↦
          let m = w.in-Send.message in
          let is : (event_at events place).kind ≡ Send m = sym c.kind_at.ensures ∙ w.in-Send.is in
          let own : SentWith = record { message = m; stamp = w.stamp_at-stamp.result } in
          let same : own ≡ record { message = m; stamp = (event_at events place).stamp } =
          λ i. record { message = m; stamp = w.stamp_at-stamp.ensures i } in
          let new : is_some (known own) ≡ false =
          ap is_some (sym (c.loop-place.invariant own)) ∙ sym w.contains_key.ensures ∙ w.if-not-contains_key.true in
          ap (λ s. lookup (is_same_sent_with key) s.entries) w.sent-is ∙ w.in_ok-insert.ensures.updates.0 key
          ∙ ap (λ (o : Option EventId). cond (is_same_sent_with own key) (Some (record { 0 = place })) o) before
          ∙ ap (λ (own : SentWith). (let o : Option EventId = cond (is_same_sent_with own key) (Some (record { 0 = place })) (known key) in o)) same
          ∙ sym (known_new events place m is (subst (λ (own : SentWith). is_some (known own) ≡ false) same new) key)
      | in-Send+else-not-contains_key w ↦
          let m = w.in-Send.message in
          let is : (event_at events place).kind ≡ Send m = sym c.kind_at.ensures ∙ w.in-Send.is in
          let own : SentWith = record { message = m; stamp = w.stamp_at-stamp.result } in
          let same : own ≡ record { message = m; stamp = (event_at events place).stamp } =
          λ i. record { message = m; stamp = w.stamp_at-stamp.ensures i } in
          let there : is_some (known own) ≡ true =
          ap is_some (sym (c.loop-place.invariant own)) ∙ sym w.contains_key.ensures ∙ w.if-not-contains_key.false in
          ap (λ s. lookup (is_same_sent_with key) s.entries) w.sent-is ∙ before
          ∙ sym (known_stays events place m is (subst (λ (own : SentWith). is_some (known own) ≡ true) same there) key)
      | in_default w ↦
          ap (λ s. lookup (is_same_sent_with key) s.entries) w.sent-is ∙ before
          ∙ sym (known_over events place (λ m is. w.in_default.not-Send m (c.kind_at.ensures ∙ is)) key)
    ]
