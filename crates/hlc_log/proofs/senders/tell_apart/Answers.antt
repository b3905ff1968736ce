use Rattle.std.proofs.Common.{◌≡◌, ◌∙◌, ◌+◌, ℕ, Bool, true, false, cond, List, ap, arith, length, map, refl, subst, sym}
use Rattle.std.specs.Prelude.{◌==◌, All}
use Rattle.hlc_log.specs.declared.log_event.LogEvent.{LogEvent}
use Rattle.hlc_log.specs.declared.log_event.LogKind.{LogKind}
use Rattle.hlc_log.specs.declared.log_event.LogKind.TheVariants.{Local, Outside, Receive, Restart, Send}
use Rattle.hlc_log.specs.declared.message_id.MessageId.{MessageId}
use Rattle.hlc_log.specs.Events.{IsInRange, IsNumbered, event_at}
use Rattle.hlc_log.specs.Senders.{apart_kind, kind_received, received_from, sender_at, told_apart}
use Rattle.hlc_log.proofs.ToldApart.{AreApartUpTo, apart_all, apart_more, apart_none, in_range_apart, lines_apart, numbered_apart, received_is}
use Rattle.hlc_log.proofs.senders.tell_apart.Goals as goal
use Rattle.hlc_log.proofs.senders.tell_apart.Goals.{in-Send, After-drop-sent, in-Receive+else-eq, in-Receive+then-eq, in_default}

pub loop-place-init : goal.loop-place-init
loop-place-init c = apart_none c.args.unnamed c.args.messages c.args.senders.now c.args.log.now.events

module _ (c : goal.After-take_as) where
  abbrev place : ℕ
  place = c.loop-place.place

  abbrev was : LogEvent
  was = event_at c.args.log.now.events place

  abbrev becomes : LogKind → LogKind
  becomes kind = apart_kind c.args.unnamed c.args.messages c.args.senders.now c.args.log.now.events place was.carried kind

  same : event_at c.loop-place.log.events place ≡ was
  same = c.loop-place.invariant.left place (omega arith)

  read : c.kind_at.result ≡ was.kind
  read = c.kind_at.ensures ∙ ap (λ (e : LogEvent). e.kind) same

  stays : (kind : LogKind) → ((m : MessageId) → kind ≡ Send m → ⊥) → ((m : MessageId) → kind ≡ Receive m → ⊥) → kind ≡ becomes kind
  stays Local no_send no_receive = refl
  stays (Send m) no_send no_receive = absurd (no_send m refl)
  stays (Receive m) no_send no_receive = absurd (no_receive m refl)
  stays Restart no_send no_receive = refl
  stays Outside no_send no_receive = refl

  kind_is : c.match-kind_at.kind ≡ becomes was.kind
  kind_is = elim c.match-kind_at.branch [
    | in-Send w ↦
        let is : was.kind ≡ Send w.in-Send.message = sym read ∙ w.in-Send.is in
        w.kind-is ∙ ap (λ (m : MessageId). Send m) w.own_message.ensures ∙ sym (ap becomes is)
    | in-Receive+then-eq w ↦
        let message = w.in-Receive.message in
        let is : was.kind ≡ Receive message = sym read ∙ w.in-Receive.is in
        let test : (message.0 == c.args.unnamed.0) ≡ true = sym w.eq.ensures ∙ w.if-eq.true in
        let carried : w.carried_at.result ≡ was.carried = w.carried_at.ensures ∙ ap (λ (e : LogEvent). e.carried) same in
        w.kind-is ∙ w.received_from.ensures
        ∙ (λ i. kind_received c.in_ok-sent.sent.entries (w.sender_at.ensures i) (carried i))
        ∙ received_is c.args.unnamed c.args.messages c.args.log.now.events c.in_ok-sent.sent.entries c.in_ok-sent.ensures (sender_at c.args.senders.now place) was.carried
        ∙ sym (ap (λ (b : Bool). cond b (received_from c.args.unnamed c.args.messages c.args.log.now.events (sender_at c.args.senders.now place) was.carried) (Receive message)) test)
        ∙ sym (ap becomes is)
    | in-Receive+else-eq w ↦
        let message = w.in-Receive.message in
        let is : was.kind ≡ Receive message = sym read ∙ w.in-Receive.is in
        let test : (message.0 == c.args.unnamed.0) ≡ false = sym w.eq.ensures ∙ w.if-eq.false in
        w.kind-is
        ∙ sym (ap (λ (b : Bool). cond b (received_from c.args.unnamed c.args.messages c.args.log.now.events (sender_at c.args.senders.now place) was.carried) (Receive message)) test)
        ∙ sym (ap becomes is)
    | in_default w ↦
        w.kind-is ∙ read ∙ stays was.kind (λ m is. w.in_default.not-Send m (read ∙ is)) (λ m is. w.in_default.not-Receive m (read ∙ is))
  ]

pub loop-place-preserved : goal.loop-place-preserved
loop-place-preserved c =
    let next = apart_more c.args.unnamed c.args.messages c.args.senders.now c.args.log.now.events c.loop-place.log.events c.loop-place.place
    c.match-kind_at.kind c.loop-place.invariant (omega (arith, c.loop-place.invariant.size)) (kind_is c) in
    subst (λ (events : List LogEvent). AreApartUpTo c.args.unnamed c.args.messages c.args.senders.now c.args.log.now.events events (c.loop-place.place + 1))
    (sym c.take_as.ensures) next

module _ (c : After-drop-sent) where
  told : c.loop-place.log.events ≡ told_apart c.args.unnamed c.args.messages c.args.senders.now c.args.log.now.events
  told =
      let end : c.loop-place.place ≡ length c.args.log.now.events = omega (arith, c.loop-place.invariant.size) in
      apart_all c.args.unnamed c.args.messages c.args.senders.now c.args.log.now.events c.loop-place.log.events
      (subst (AreApartUpTo c.args.unnamed c.args.messages c.args.senders.now c.args.log.now.events c.loop-place.log.events) end c.loop-place.invariant)

pub returns-clause-events : goal.returns-clause-events
returns-clause-events c = told c

pub returns-clause-numbered : goal.returns-clause-numbered
returns-clause-numbered c numbered =
    subst (All (IsNumbered (c.args.messages + length c.args.log.now.events))) (sym (told c))
    (numbered_apart c.args.unnamed c.args.messages c.args.senders.now c.args.log.now.events numbered)

pub returns-clause-in_range : goal.returns-clause-in_range
returns-clause-in_range c in_range =
    subst (All IsInRange) (sym (told c))
    (in_range_apart c.args.unnamed c.args.messages c.args.senders.now c.args.log.now.events 0 c.args.log.now.events in_range)

pub returns-clause-lines : goal.returns-clause-lines
returns-clause-lines c =
    ap (map (λ (e : LogEvent). e.line)) (told c)
    ∙ lines_apart c.args.unnamed c.args.messages c.args.senders.now c.args.log.now.events 0 c.args.log.now.events
