-- The numbers of messages, by the events that come with their names first.
use Rattle.std.proofs.Common.{◌≡◌, ◌∙◌, ◌<◌, ◌≤◌, Bool, true, false, List, ℕ, ap, arith, inl, inr, length, refl, sym}
use Rattle.std.specs.Prelude.{bytes_eq}
use Rattle.std.proofs.lemmas.Bool.{cases_order}
use Rattle.std.proofs.lemmas.List.{get_or-map, length-map}
use Rattle.std.proofs.lemmas.List.Sums.{fails_before_first, passes_at_first}
use Rattle.std.proofs.lemmas.Slice.Eq.{bytes_eq-Decides}
use Rattle.hlc_log.specs.declared.log_event.LogKind.{LogKind}
use Rattle.hlc_log.specs.declared.log_event.LogKind.TheVariants as kind
use Rattle.hlc_log.specs.declared.message_id.MessageId.{MessageId}
use Rattle.hlc_log.specs.Events.{event_at, no_event}
use Rattle.hlc_watch.specs.Coming.{HasMessage}
use Rattle.hlc_watched_log.specs.Laws.{FileEvent, NamesTellApart, events_of, message_number, numbered, numbered_kind}
use Rattle.hlc_watched_log.proofs.EventsKept.{item_at, name_here, no_item}

sent_number : (number m : ℕ) (other : LogKind) → numbered_kind number other ≡ kind.Send (record { 0 = m }) → m ≡ number
sent_number number m kind.Local is = absurd cc
sent_number number m (kind.Send message) is =
    let ids : ◌≡◌ {A = MessageId} (record { 0 = number }) (record { 0 = m }) = cc in sym (ap (λ (x : MessageId). x.0) ids)
sent_number number m (kind.Receive message) is = absurd cc
sent_number number m kind.Restart is = absurd cc
sent_number number m kind.Outside is = absurd cc

received_number : (number m : ℕ) (other : LogKind) → numbered_kind number other ≡ kind.Receive (record { 0 = m }) → m ≡ number
received_number number m kind.Local is = absurd cc
received_number number m (kind.Send message) is = absurd cc
received_number number m (kind.Receive message) is =
    let ids : ◌≡◌ {A = MessageId} (record { 0 = number }) (record { 0 = m }) = cc in sym (ap (λ (x : MessageId). x.0) ids)
received_number number m kind.Restart is = absurd cc
received_number number m kind.Outside is = absurd cc

module _ (events : List FileEvent) where
  -- an event comes with a name
  abbrev comes_with : List ℕ → FileEvent → Bool
  comes_with name x = bytes_eq name x.message

  -- the first event that comes with a name which one has comes with it
  number_is_of : (d : ℕ) → d < length events
      → (item_at events (message_number events (item_at events d).message)).message ≡ (item_at events d).message
  number_is_of d within =
      let name = (item_at events d).message in
      let first = message_number events name in
      let here : comes_with name (item_at events d) ≡ true = (bytes_eq-Decides name name).1 refl in
      let among : first ≤ d = elim (cases_order d first) [
        | inl same ↦ omega arith
        | inr differ ↦ elim differ [
          | inl before ↦
              let fails = fails_before_first (comes_with name) events d no_item before in
              let bad : true ≡ false = sym here ∙ fails in absurd cc
          | inr after ↦ omega arith
        ]
      ] in
      let passes = passes_at_first (comes_with name) events no_item (omega arith) in
      sym ((bytes_eq-Decides name (item_at events first).message).0 passes)

  -- an event's message has the number of its name
  has_number : (d m : ℕ) → HasMessage (events_of events) d m → (d < length events) × (m ≡ message_number events (item_at events d).message)
  has_number d m (inl sends) =
      let size = length-map events (numbered events) in
      let exists = sends.exists in
      let within : d < length events = omega arith in
      let x = item_at events d in
      let at : event_at (events_of events) d ≡ numbered events x = get_or-map (numbered events) events d no_item no_event within in
      (within, sent_number (message_number events x.message) m x.event.kind (sym (ap (λ e. e.kind) at) ∙ sends.kind))
  has_number d m (inr received) =
      let size = length-map events (numbered events) in
      let exists = received.exists in
      let within : d < length events = omega arith in
      let x = item_at events d in
      let at : event_at (events_of events) d ≡ numbered events x = get_or-map (numbered events) events d no_item no_event within in
      (within, received_number (message_number events x.message) m x.event.kind (sym (ap (λ e. e.kind) at) ∙ received.kind))

pub names_tell_apart : NamesTellApart
names_tell_apart events d e m k here there =
    let first = has_number events d m here in
    let second = has_number events e k there in
    let name = name_here events d first.0 in
    let other = name_here events e second.0 in (
      λ same. first.1 ∙ ap (message_number events) (sym name ∙ same ∙ other) ∙ sym second.1,
      λ same. name ∙ sym (number_is_of events d first.0)
          ∙ ap (λ (n : ℕ). (item_at events n).message) (sym first.1 ∙ same ∙ second.1)
          ∙ number_is_of events e second.0 ∙ sym other,
    )
