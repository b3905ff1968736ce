-- Events that receive messages which no event sends, taken one by one.
use Rattle.std.proofs.Common.{◌≡◌, ◌≢◌, ℕ, suc, ◌+◌, ◌<◌, ◌≤◌, inl, inr, Bool, true, false, List, [], ◌∷◌, count_by, length, map, set, Option, Some, None, arith, refl, subst, sym, ap, ◌∙◌}
use Rattle.std.specs.Prelude.{All, if◌then◌else◌, is_some, not}
use Rattle.std.proofs.lemmas.Bool.{cases_eq, not-false}
use Rattle.std.proofs.lemmas.List.{ext_get_or, get_or-map, get_or_default, get_or-set_other, get_or-set_same, length-map}
use Rattle.std.proofs.lemmas.List.Elements.{All-map, All-weaker}
use Rattle.std.proofs.lemmas.List.Folds.{Any-from_list_any}
use Rattle.hlc_stamp.specs.Order.{Pair}
use Rattle.hlc_log.specs.declared.asides.Aside.{Aside}
use Rattle.hlc_log.specs.declared.log_event.LogEvent.{LogEvent}
use Rattle.hlc_log.specs.declared.log_event.LogKind.{LogKind}
use Rattle.hlc_log.specs.declared.log_event.LogKind.TheVariants.{Local, Outside, Receive, Restart, Send}
use Rattle.hlc_log.specs.declared.message_id.MessageId.{MessageId}
use Rattle.hlc_log.specs.declared.slot.Role.{Role}
use Rattle.hlc_log.specs.declared.slot.Role.TheVariants as role
use Rattle.hlc_log.specs.declared.slot.Slot.{Slot}
use Rattle.hlc_log.specs.Events.{IsInRange, IsMessageBelow, IsNumbered, event_at, no_event}
use Rattle.hlc_log.specs.Messages.{ReceivesUnsent, Sends}
use Rattle.hlc_log.specs.Slots.{kind_by, stored_event}
use Rattle.hlc_log.specs.Unsent.{AreSentMarks, is_outside, is_send, is_sent, is_unmarked, is_unsent, is_untold, outside_count, taken_event, taken_kind, with_unsent}
use Rattle.hlc_log.proofs.OrderSkeletons.{sends_if}

-- marks tell which messages are sent
pub unmarked_is_unsent : (events : List LogEvent) (marks : List Bool) → AreSentMarks events marks → (kind : LogKind) → IsMessageBelow (length marks) kind
    → is_unmarked marks kind ≡ is_unsent events kind
unmarked_is_unsent events marks h Local below = refl
unmarked_is_unsent events marks h (Send m) below = refl
unmarked_is_unsent events marks h (Receive m) below = ap not (h m.0 below)
unmarked_is_unsent events marks h Restart below = refl
unmarked_is_unsent events marks h Outside below = refl

-- only a receive is unsent
unsent_receives : (events : List LogEvent) (kind : LogKind) → is_unsent events kind ≡ true → (m : MessageId) × (kind ≡ Receive m)
unsent_receives events Local is = absurd cc
unsent_receives events (Send m) is = absurd cc
unsent_receives events (Receive m) is = (m, refl)
unsent_receives events Restart is = absurd cc
unsent_receives events Outside is = absurd cc

receive_role : (kept : Role) (message m : MessageId) → kind_by kept message ≡ Receive m → message ≡ m
receive_role role.Local message m is = absurd cc
receive_role role.Send message m is = absurd cc
receive_role role.Receive message m is = cc
receive_role role.Restart message m is = absurd cc
receive_role role.Outside message m is = absurd cc

-- an event whose slot is changed exactly if it is unsent
module _ (as_local : Bool) (events : List LogEvent) (aside : Aside) (old new : Slot) (becomes : Role)
    (kind : (m : MessageId) → kind_by becomes m ≡ taken_kind as_local aside.carried (Receive m)) where
  kind_becomes : is_unsent events (kind_by old.role old.message) ≡ true
      → kind_by becomes old.message ≡ taken_kind as_local aside.carried (kind_by old.role old.message)
  kind_becomes unsent =
      let (m, is) = unsent_receives events (kind_by old.role old.message) unsent in
      kind old.message ∙ ap (λ (k : MessageId). taken_kind as_local aside.carried (Receive k)) (receive_role old.role old.message m is)
      ∙ ap (taken_kind as_local aside.carried) (sym is)

  by_test : (test : Bool) → is_unsent events (kind_by old.role old.message) ≡ test → (test ≡ true → new ≡ record old { role = becomes }) → (test ≡ false → new ≡ old)
      → stored_event aside new
      ≡ (if test then record (stored_event aside old) { kind = taken_kind as_local aside.carried (kind_by old.role old.message) } else stored_event aside old)
  by_test true is taken left =
      ap (stored_event aside) (taken refl) ∙ ap (λ (k : LogKind). record (stored_event aside old) { kind = k }) (kind_becomes is)
  by_test false is taken left = ap (stored_event aside) (left refl)

  pub taken_slot : (test : Bool) → test ≡ is_unsent events (kind_by old.role old.message)
      → (test ≡ true → new ≡ record old { role = becomes }) → (test ≡ false → new ≡ old)
      → stored_event aside new ≡ taken_event as_local events (stored_event aside old)
  taken_slot test is taken left =
      subst (λ (t : Bool). stored_event aside new
      ≡ (if t then record (stored_event aside old) { kind = taken_kind as_local aside.carried (kind_by old.role old.message) } else stored_event aside old)) is
      (by_test test (sym is) taken left)

-- one event more is changed
module _ (change : LogEvent → LogEvent) (events now : List LogEvent) (place : ℕ) (new : LogEvent) (within : place < length now) where
  pub taken_more : ((k : ℕ) → k < place → event_at now k ≡ change (event_at events k)) → new ≡ change (event_at events place)
      → (k : ℕ) → k < place + 1 → event_at (set now place new) k ≡ change (event_at events k)
  taken_more before here k lt = elim (cases_eq k place) [
    | inl last ↦
        ap (event_at (set now place new)) last ∙ get_or-set_same now place new no_event within ∙ here
        ∙ ap (λ (i : ℕ). change (event_at events i)) (sym last)
    | inr ne ↦ get_or-set_other now place k new no_event ne ∙ before k (omega arith)
  ]

  pub left_more : ((k : ℕ) → place ≤ k → event_at now k ≡ event_at events k)
      → (k : ℕ) → place + 1 ≤ k → event_at (set now place new) k ≡ event_at events k
  left_more before k from =
      let ne : k ≢ place = omega arith in
      get_or-set_other now place k new no_event ne ∙ before k (omega arith)

-- all events are changed
pub all_taken : (change : LogEvent → LogEvent) (events now : List LogEvent) → length now ≡ length events
    → ((k : ℕ) → k < length events → event_at now k ≡ change (event_at events k)) → now ≡ map change events
all_taken change events now len each =
    ext_get_or no_event now (map change events) (len ∙ sym (length-map events change)) (λ i lt.
    let within : i < length events = omega arith in
    each i within ∙ sym (get_or-map change events i no_event no_event within))

-- an event keeps its numbers
taken_below : (messages : ℕ) (as_local : Bool) (carried : Option Pair) (kind : LogKind) → IsMessageBelow messages kind
    → IsMessageBelow messages (taken_kind as_local carried kind)
taken_below messages as_local (Some stamp) kind below = tt
taken_below messages true None kind below = tt
taken_below messages false None kind below = below

still_numbered : (messages : ℕ) (as_local : Bool) (event : LogEvent) (test : Bool) → IsNumbered messages event
    → IsNumbered messages (if test then record event { kind = taken_kind as_local event.carried event.kind } else event)
still_numbered messages as_local event true h = record { node = h.node; message = taken_below messages as_local event.carried event.kind h.message }
still_numbered messages as_local event false h = h

pub all_still_numbered : (messages : ℕ) (as_local : Bool) (events : List LogEvent) → All (IsNumbered messages) events
    → All (IsNumbered messages) (with_unsent as_local events)
all_still_numbered messages as_local events h =
    All-map (IsNumbered messages) (taken_event as_local events) events
    (All-weaker (IsNumbered messages) (λ (event : LogEvent). IsNumbered messages (taken_event as_local events event))
    (λ event numbered. still_numbered messages as_local event (is_unsent events event.kind) numbered) events h)

-- and what is in range stays so
no_restart : (as_local : Bool) (carried : Option Pair) (kind : LogKind) → taken_kind as_local carried kind ≡ Restart → kind ≡ Restart
no_restart as_local (Some stamp) kind is = absurd cc
no_restart true None kind is = absurd cc
no_restart false None kind is = is

still_in_range : (as_local : Bool) (event : LogEvent) (test : Bool) → IsInRange event
    → IsInRange (if test then record event { kind = taken_kind as_local event.carried event.kind } else event)
still_in_range as_local event true h = record {
  positive = h.positive;
  in_range = h.in_range;
  floor = λ is. h.floor (no_restart as_local event.carried event.kind is);
  carried = h.carried;
  told = λ is. h.told (no_restart as_local event.carried event.kind is);
}
still_in_range as_local event false h = h

pub all_still_in_range : (as_local : Bool) (events : List LogEvent) → All IsInRange events → All IsInRange (with_unsent as_local events)
all_still_in_range as_local events h =
    All-map IsInRange (taken_event as_local events) events
    (All-weaker IsInRange (λ (event : LogEvent). IsInRange (taken_event as_local events event))
    (λ event in_range. still_in_range as_local event (is_unsent events event.kind) in_range) events h)

-- what is left is no receive of an unsent message, if those that tell nothing are taken as local
module _ (events : List LogEvent) where
  taken_at : (f : ℕ) → f < length (with_unsent true events)
      → (f < length events) × (event_at (with_unsent true events) f ≡ taken_event true events (event_at events f))
  taken_at f lt =
      let size = length-map events (taken_event true events) in
      let within : f < length events = omega arith in
      (within, get_or-map (taken_event true events) events f no_event no_event within)

  never_receive : (carried : Option Pair) (kind : LogKind) (m : MessageId) → taken_kind true carried kind ≡ Receive m → ⊥
  never_receive None kind m is = cc
  never_receive (Some stamp) kind m is = cc

  received_still : (m : MessageId) (event : LogEvent) (test : Bool) → is_unsent events event.kind ≡ test
      → (let changed : LogEvent = if test then record event { kind = taken_kind true event.carried event.kind } else event in changed.kind) ≡ Receive m
      → is_sent events m.0 ≡ true
  received_still m event true is kind = absurd (never_receive event.carried event.kind m kind)
  received_still m event false is kind =
      let unsent : is_unsent events (Receive m) ≡ false = sym (ap (is_unsent events) kind) ∙ is in
      not-false (is_sent events m.0) unsent

  sent_still : (e m : ℕ) → Sends events e m → Sends (with_unsent true events) e m
  sent_still e m sends =
      let size = length-map events (taken_event true events) in
      let exists : e < length (with_unsent true events) = let before = sends.exists in omega arith in
      let changed = taken_at e exists in
      let event = event_at events e in
      let same : taken_event true events event ≡ event =
      ap (λ (t : Bool). if t then record event { kind = taken_kind true event.carried event.kind } else event) (ap (is_unsent events) sends.kind) in
      record { exists = exists; kind = ap (λ (x : LogEvent). x.kind) (changed.1 ∙ same) ∙ sends.kind }

  pub none_left : (f : ℕ) → ¬ ReceivesUnsent (with_unsent true events) f
  none_left f (m, receives, none) =
      let changed = taken_at f receives.exists in
      let event = event_at events f in
      let kind : (taken_event true events event).kind ≡ Receive (record { 0 = m }) = sym (ap (λ (x : LogEvent). x.kind) changed.1) ∙ receives.kind in
      let sent : is_sent events m ≡ true = received_still (record { 0 = m }) event (is_unsent events event.kind) refl kind in
      let test = λ (x : LogEvent). is_send m x.kind in
      let found = Any-from_list_any test events sent in
      let e = found.0 in
      let is : test (event_at events e) ≡ true =
      ap test (get_or_default events e no_event found.1 found.2 ∙ found.3) ∙ found.4 in
      none e (sent_still e m (sends_if events e m found.2 is))

-- where nothing that messages carried is told, nothing is taken, unless it is taken as local
module _ (events : List LogEvent) (untold : (e : ℕ) → (event_at events e).carried ≡ None) where
  nothing_changes : (event : LogEvent) (test : Bool) → event.carried ≡ None
      → (if test then record event { kind = taken_kind false event.carried event.kind } else event) ≡ event
  nothing_changes event true none = ap (λ (o : Option Pair). record event { kind = taken_kind false o event.kind }) none
  nothing_changes event false none = refl

  pub nothing_taken : events ≡ with_unsent false events
  nothing_taken = all_taken (taken_event false events) events events refl (λ k lt.
      sym (nothing_changes (event_at events k) (is_unsent events (event_at events k).kind) (untold k)))

  pub none_outside : outside_count events ≡ 0
  none_outside = none_counted (is_outside events) events (λ e. ap (λ (o : Option Pair). if is_some o then is_unsent events (event_at events e).kind else false) (untold e))
    where
      none_counted : (p : LogEvent → Bool) (xs : List LogEvent) → ((e : ℕ) → p (event_at xs e) ≡ false) → count_by p xs ≡ 0
      none_counted p [] each = refl
      none_counted p (x ∷ xs) each = let here : p x ≡ false = each 0 in rw here (none_counted p xs (λ e. each (suc e)))

-- whether an event tells what its message carried, and whether it is unsent, says which count it is in
pub outside_if : (events : List LogEvent) (event : LogEvent) (told unsent : Bool) → told ≡ is_some event.carried → unsent ≡ is_unsent events event.kind
    → is_outside events event ≡ (if told then unsent else false)
outside_if events event told unsent told_is unsent_is =
    ap (λ (t : Bool). if t then is_unsent events event.kind else false) (sym told_is) ∙ ap (λ (u : Bool). if told then u else false) (sym unsent_is)

pub untold_if : (events : List LogEvent) (event : LogEvent) (told unsent : Bool) → told ≡ is_some event.carried → unsent ≡ is_unsent events event.kind
    → is_untold events event ≡ (if told then false else unsent)
untold_if events event told unsent told_is unsent_is =
    ap (λ (t : Bool). if t then false else is_unsent events event.kind) (sym told_is) ∙ ap (λ (u : Bool). if told then false else u) (sym unsent_is)
