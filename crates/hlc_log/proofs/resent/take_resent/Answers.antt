use Rattle.std.proofs.Common.{◌≡◌, ◌∙◌, ◌+◌, ◌<◌, ℕ, List, None, Option, ap, arith, length, map, refl, subst, sym}
use Rattle.std.specs.Prelude.{All}
use Rattle.std.proofs.lemmas.List.{get_or_read, with_items_is}
use Rattle.std.proofs.lemmas.List.Elements.{same_from_all_zip}
use Rattle.hlc_stamp.specs.declared.id.EventId.{EventId}
use Rattle.hlc_log.specs.declared.log_event.LogEvent.{LogEvent}
use Rattle.hlc_log.specs.declared.log_event.LogKind.{LogKind}
use Rattle.hlc_log.specs.declared.log_event.LogKind.TheVariants.{Local, Outside, Receive, Restart, Send}
use Rattle.hlc_log.specs.declared.message_id.MessageId.{MessageId}
use Rattle.hlc_log.specs.Events.{IsInRange, IsNumbered, event_at}
use Rattle.hlc_log.specs.Messages.{EachIsSentOnce}
use Rattle.hlc_log.specs.Resent.{AreAskedSends, asked_after, first_send, message_by, own_unless_first, resent_kind, with_resent}
use Rattle.hlc_log.specs.SendLinks.{link_at}
use Rattle.hlc_log.proofs.Numbered.{receive_below, send_below}
use Rattle.hlc_log.proofs.ResentLogs.{AreResentUpTo, none_resent, resent_all, resent_in_range, resent_keeps, resent_more, resent_none_yet, resent_numbered, resent_once, send_is, send_within}
use Rattle.hlc_log.proofs.ResentSends.{asked_first, asked_more, asked_over, asked_size}
use Rattle.hlc_log.proofs.SentMessages.{receive_is_no_send}
use Rattle.hlc_log.proofs.resent.take_resent.Goals as goal
use Rattle.hlc_log.proofs.resent.take_resent.Goals.{After-drop-first-2, in-Receive, in-Send, in_default}

pub returns-then-first-eq0-clause-events : goal.returns-then-first-eq0-clause-events
returns-then-first-eq0-clause-events c =
    none_resent c.args.resent c.args.messages c.args.log.now.events (sym c.in_ok-first.ensures.resent ∙ c.if-first-eq0.true)

pub returns-then-first-eq0-clause-once : goal.returns-then-first-eq0-clause-once
returns-then-first-eq0-clause-once c =
    let events = c.args.log.now.events in
    subst EachIsSentOnce (sym (none_resent c.args.resent c.args.messages events (sym c.in_ok-first.ensures.resent ∙ c.if-first-eq0.true)))
    (resent_once c.args.resent c.args.messages events c.requires.numbered)

pub loop-place-init : goal.loop-place-init
loop-place-init c =
    let events = c.args.log.now.events in
    let first = c.in_ok-first.first.links.items in
    let same : c.in_ok-asked.asked.items ≡ first = same_from_all_zip _ first c.in_ok-asked.asked.items c.in_ok-asked.ensures.cases.0 (λ x y h. h) in
    record {
      len = ap length same ∙ c.in_ok-first.ensures.len;
      taken = resent_none_yet c.args.resent c.args.messages events;
      asked = subst (AreAskedSends events c.args.resent 0) (sym same) (asked_first events c.args.resent first c.in_ok-first.ensures.links);
    }

pub message_of-requires-clause-number : goal.message_of-requires-clause-number
message_of-requires-clause-number c =
    let events = c.args.log.now.events in
    let place = c.loop-place.place in
    let h = c.loop-place.invariant in
    let size = h.taken.size in
    let now = c.len-place-end.ensures in
    let m = c.in-Receive.message in
    let same : event_at c.loop-place.log.events place ≡ event_at events place = h.taken.left place (omega arith) in
    let exists : place < length events = omega arith in
    let is : (event_at events place).kind ≡ Receive m = sym (c.kind_at.ensures ∙ ap (λ (e : LogEvent). e.kind) same) ∙ c.in-Receive.is in
    let below = receive_below c.args.messages events c.requires.numbered place m.0 (record { exists = exists; kind = is }) in
    let carried : c.carried_at.result ≡ (event_at events place).carried = c.carried_at.ensures ∙ ap (λ (e : LogEvent). e.carried) same in
    let len = h.len in
    let asks = c.event.ensures ∙ get_or_read c.loop-place.asked.items m.0 c.index.result.now (omega arith) c.index.ensures None ∙ h.asked m.0 (omega arith) in
    send_within c.args.resent c.args.messages events m.0 place (event_at events place).carried c.or-send.result (omega arith) (omega arith) c.requires.messages
    (send_is c.args.resent c.args.messages events place m c.in_ok-claimed.claimed.entries c.carried_at.result (event_at events place).carried
    c.claimed_in-claimed.result c.event.result c.or-send.result c.or-send.ensures c.claimed_in-claimed.ensures carried (c.in_ok-claimed.ensures place m) asks)

module _ (c : goal.After-take_as) where
  abbrev place : ℕ
  place = c.loop-place.place

  abbrev was : LogEvent
  was = event_at c.args.log.now.events place

  abbrev becomes : LogKind → LogKind
  becomes kind = resent_kind c.args.log.now.events c.args.messages c.args.resent place was.carried kind

  same : event_at c.loop-place.log.events place ≡ was
  same = c.loop-place.invariant.taken.left place (omega arith)

  read : c.kind_at.result ≡ was.kind
  read = c.kind_at.ensures ∙ ap (λ (e : LogEvent). e.kind) same

  exists : place < length c.args.log.now.events
  exists = omega (arith, c.loop-place.invariant.taken.size, c.len-place-end.ensures.value)

  stays : (kind : LogKind) → ((m : MessageId) → kind ≡ Send m → ⊥) → ((m : MessageId) → kind ≡ Receive m → ⊥) → kind ≡ becomes kind
  stays Local no_send no_receive = refl
  stays (Send m) no_send no_receive = absurd (no_send m refl)
  stays (Receive m) no_send no_receive = absurd (no_receive m refl)
  stays Restart no_send no_receive = refl
  stays Outside no_send no_receive = refl

  links : (m : MessageId) → m.0 < c.args.messages → link_at c.in_ok-first.first.links.items m.0 ≡ first_send c.args.log.now.events m.0
  links m below = c.in_ok-first.ensures.links m.0 (omega (arith, below, c.in_ok-first.ensures.len))

  kind_is : c.match-kind_at.kind ≡ becomes was.kind
  kind_is = elim c.match-kind_at.branch [
    | in-Send w ↦
        let m = w.in-Send.message in
        let is : was.kind ≡ Send m = sym read ∙ w.in-Send.is in
        let below = send_below c.args.messages c.args.log.now.events c.requires.numbered place m.0 (record { exists = exists; kind = is }) in
        w.kind-is
        ∙ ap (λ (m : MessageId). Send m) (w.own_message.ensures
        ∙ ap (λ (first : List (Option EventId)). own_unless_first c.args.messages (link_at first m.0) place m) w.deref.ensures.value
        ∙ ap (λ (o : Option EventId). own_unless_first c.args.messages o place m) (links m below))
        ∙ sym (ap becomes is)
    | in-Receive w ↦
        let m = w.in-Receive.message in
        let is : was.kind ≡ Receive m = sym read ∙ w.in-Receive.is in
        let below = receive_below c.args.messages c.args.log.now.events c.requires.numbered place m.0 (record { exists = exists; kind = is }) in
        let carried : w.carried_at.result ≡ was.carried = w.carried_at.ensures ∙ ap (λ (e : LogEvent). e.carried) same in
        let within : m.0 < length c.loop-place.asked.items = omega (arith, below, c.loop-place.invariant.len) in
        let asks = w.event.ensures ∙ get_or_read c.loop-place.asked.items m.0 w.index.result.now within w.index.ensures None
        ∙ c.loop-place.invariant.asked m.0 within in
        let send = send_is c.args.resent c.args.messages c.args.log.now.events place m c.in_ok-claimed.claimed.entries w.carried_at.result was.carried
        w.claimed_in-claimed.result w.event.result w.or-send.result w.or-send.ensures w.claimed_in-claimed.ensures carried (c.in_ok-claimed.ensures place m) asks in
        w.kind-is
        ∙ ap (λ (m : MessageId). Receive m) (w.message_of.ensures
        ∙ ap (λ (first : List (Option EventId)). message_by c.args.messages (link_at first m.0) m w.or-send.result) w.deref-in-Receive.ensures.value
        ∙ (λ i. message_by c.args.messages (links m below i) m (send i)))
        ∙ sym (ap becomes is)
    | in_default w ↦
        w.kind-is ∙ read ∙ stays was.kind (λ m is. w.in_default.not-Send m (read ∙ is)) (λ m is. w.in_default.not-Receive m (read ∙ is))
  ]

  asked_now : (length c.match-kind_at.asked.items ≡ c.args.messages)
      × AreAskedSends c.args.log.now.events c.args.resent (place + 1) c.match-kind_at.asked.items
  asked_now = elim c.match-kind_at.branch [
    | in-Send w ↦
        let m = w.in-Send.message in
        let is : was.kind ≡ Send m = sym read ∙ w.in-Send.is in
        let below = send_below c.args.messages c.args.log.now.events c.requires.numbered place m.0 (record { exists = exists; kind = is }) in
        let within : m.0 < length c.loop-place.asked.items = omega (arith, below, c.loop-place.invariant.len) in
        let put : w.put_send.new.asked ≡ asked_after c.args.resent c.loop-place.asked.items m.0 place =
        w.put_send.ensures ∙ ap (λ (links : List (Option EventId)). asked_after c.args.resent links m.0 place) w.deref_mut.ensures.value in
        let size : length w.put_send.new.asked ≡ length c.loop-place.asked.items =
        ap length put ∙ asked_size c.args.resent c.loop-place.asked.items m.0 place in
        let items : c.match-kind_at.asked.items ≡ asked_after c.args.resent c.loop-place.asked.items m.0 place =
        ap (λ v. v.items) w.asked-is ∙ with_items_is c.loop-place.asked w.put_send.new.asked (omega (arith, size, c.loop-place.asked.ok)) ∙ put in (
          ap length items ∙ asked_size c.args.resent c.loop-place.asked.items m.0 place ∙ c.loop-place.invariant.len,
          subst (AreAskedSends c.args.log.now.events c.args.resent (place + 1)) (sym items)
              (asked_more c.args.log.now.events place c.loop-place.asked.items c.args.resent c.loop-place.invariant.asked m is within),
        )
    | in-Receive w ↦ (
      ap (λ v. length v.items) w.asked-is ∙ c.loop-place.invariant.len,
      subst (λ v. AreAskedSends c.args.log.now.events c.args.resent (place + 1) v.items) (sym w.asked-is)
          (asked_over c.args.log.now.events place c.loop-place.asked.items c.args.resent c.loop-place.invariant.asked
          (λ m is. receive_is_no_send was.kind w.in-Receive.message m (sym read ∙ w.in-Receive.is) is)),
    )
    | in_default w ↦ (
      ap (λ v. length v.items) w.asked-is ∙ c.loop-place.invariant.len,
      subst (λ v. AreAskedSends c.args.log.now.events c.args.resent (place + 1) v.items) (sym w.asked-is)
          (asked_over c.args.log.now.events place c.loop-place.asked.items c.args.resent c.loop-place.invariant.asked
          (λ m is. w.in_default.not-Send m (read ∙ is))),
    )
  ]

pub loop-place-preserved : goal.loop-place-preserved
loop-place-preserved c =
    let next = resent_more c.args.resent c.args.messages c.args.log.now.events c.loop-place.log.events c.loop-place.place c.match-kind_at.kind
    c.loop-place.invariant.taken (exists c) (kind_is c) in
    record {
      len = (asked_now c).0;
      taken = subst (λ (events : List LogEvent). AreResentUpTo c.args.resent c.args.messages c.args.log.now.events events (c.loop-place.place + 1))
          (sym c.take_as.ensures) next;
      asked = (asked_now c).1;
    }

module _ (c : After-drop-first-2) where
  told : c.loop-place.log.events ≡ with_resent c.args.resent c.args.messages c.args.log.now.events
  told =
      let end : c.loop-place.place ≡ length c.args.log.now.events = omega (arith, c.loop-place.invariant.taken.size) in
      resent_all c.args.resent c.args.messages c.args.log.now.events c.loop-place.log.events
      (subst (AreResentUpTo c.args.resent c.args.messages c.args.log.now.events c.loop-place.log.events) end c.loop-place.invariant.taken)

pub returns-clause-events : goal.returns-clause-events
returns-clause-events c = told c

pub returns-clause-once : goal.returns-clause-once
returns-clause-once c =
    subst EachIsSentOnce (sym (told c)) (resent_once c.args.resent c.args.messages c.args.log.now.events c.requires.numbered)

pub returns-clause-numbered : goal.returns-clause-numbered
returns-clause-numbered c =
    subst (All (IsNumbered (c.args.messages + length c.args.log.now.events))) (sym (told c))
    (resent_numbered c.args.resent c.args.messages c.args.log.now.events c.requires.numbered)

pub returns-clause-in_range : goal.returns-clause-in_range
returns-clause-in_range c in_range =
    subst (All IsInRange) (sym (told c)) (resent_in_range c.args.resent c.args.messages c.args.log.now.events in_range)

pub returns-clause-nodes : goal.returns-clause-nodes
returns-clause-nodes c =
    ap (map (λ (e : LogEvent). e.node)) (told c)
    ∙ resent_keeps c.args.resent c.args.messages c.args.log.now.events (λ (e : LogEvent). e.node) (λ kind event. refl)

pub returns-clause-lines : goal.returns-clause-lines
returns-clause-lines c =
    ap (map (λ (e : LogEvent). e.line)) (told c)
    ∙ resent_keeps c.args.resent c.args.messages c.args.log.now.events (λ (e : LogEvent). e.line) (λ kind event. refl)
