use Rattle.std.proofs.Common.{◌≡◌, ◌∙◌, ◌<◌, ℕ, length, false, true, subst, sym, ap, arith, Option, cond, Some}
use Rattle.std.specs.Prelude.{is_some}
use Rattle.std.specs.Map.{lookup}
use Rattle.hlc_log.specs.declared.log_event.LogKind.TheVariants.{Send}
use Rattle.hlc_log.specs.declared.message_id.MessageId.{MessageId}
use Rattle.hlc_log.specs.declared.senders.SentAs.{SentAs}
use Rattle.hlc_log.specs.Events.{event_at}
use Rattle.hlc_log.specs.Senders.{is_same_sent, own_message}
use Rattle.hlc_log.proofs.SentStamps.{adds_if_new, message_among, stays_if_known, stays_if_none}
use Rattle.hlc_log.proofs.senders.sent_by_stamps.Goals as goal
use Rattle.hlc_log.proofs.senders.sent_by_stamps.Goals.{in-Send+then-not-contains_key+in_ok-insert, in-Send+else-not-contains_key, in_default}

pub loop-place-preserved : goal.loop-place-preserved
loop-place-preserved c key =
    let events = c.args.log.now.events in
    let place = c.loop-place.place in
    let exists : place < length events = omega arith in
    let before = c.loop-place.invariant key in
    elim c.match-kind_at.branch [
      | in-Send+then-not-contains_key+in_ok-insert w ↦
          let is_send : (event_at events place).kind ≡ Send w.in-Send.message = sym c.kind_at.ensures ∙ w.in-Send.is in
          let own : SentAs = record { node = w.node_at.result; stamp = w.stamp_at.result } in
          let same : own ≡ record { node = (event_at events place).node; stamp = (event_at events place).stamp } =
          λ i. record { node = w.node_at.ensures i; stamp = w.stamp_at.ensures i } in
          let new : is_some (message_among c.args.unnamed c.args.messages events place own) ≡ false =
          ap is_some (sym (c.loop-place.invariant own)) ∙ sym w.contains_key.ensures ∙ w.if-not-contains_key.true in
          let value : w.own_message.result ≡ own_message c.args.unnamed c.args.messages place w.in-Send.message = w.own_message.ensures in
          let owned : MessageId = own_message c.args.unnamed c.args.messages place w.in-Send.message in
          let among : SentAs → ℕ → Option MessageId = λ key n. message_among c.args.unnamed c.args.messages events n key in
          ap (λ s. lookup (is_same_sent key) s.entries) w.sent-is ∙ w.in_ok-insert.ensures.updates.0 key
          ∙ ap (λ (m : MessageId). (let o : Option MessageId = cond (is_same_sent own key) (Some m) (lookup (is_same_sent key) c.loop-place.sent.entries) in o)) value
          ∙ ap (λ (o : Option MessageId). cond (is_same_sent own key) (Some owned) o) before
          ∙ ap (λ (own : SentAs). (let o : Option MessageId = cond (is_same_sent own key) (Some owned) (among key place) in o)) same
          ∙ sym (adds_if_new c.args.unnamed c.args.messages events place exists w.in-Send.message is_send
          (subst (λ (own : SentAs). is_some (among own place) ≡ false) same new) key)
      | in-Send+else-not-contains_key w ↦
          let is_send : (event_at events place).kind ≡ Send w.in-Send.message = sym c.kind_at.ensures ∙ w.in-Send.is in
          let own : SentAs = record { node = w.node_at.result; stamp = w.stamp_at.result } in
          let same : own ≡ record { node = (event_at events place).node; stamp = (event_at events place).stamp } =
          λ i. record { node = w.node_at.ensures i; stamp = w.stamp_at.ensures i } in
          let known : is_some (message_among c.args.unnamed c.args.messages events place own) ≡ true =
          ap is_some (sym (c.loop-place.invariant own)) ∙ sym w.contains_key.ensures ∙ w.if-not-contains_key.false in
          ap (λ s. lookup (is_same_sent key) s.entries) w.sent-is ∙ before
          ∙ sym (stays_if_known c.args.unnamed c.args.messages events place exists w.in-Send.message is_send
          (subst (λ (own : SentAs). is_some (message_among c.args.unnamed c.args.messages events place own) ≡ true) same known) key)
      | in_default w ↦
          ap (λ s. lookup (is_same_sent key) s.entries) w.sent-is ∙ before
          ∙ sym (stays_if_none c.args.unnamed c.args.messages events place exists (λ m is. w.in_default.not-Send m (c.kind_at.ensures ∙ is)) key)
    ]
