-- Logs whose messages are told apart.
use Rattle.std.proofs.Common.{◌≡◌, ◌≢◌, ◌∙◌, ℕ, zero, suc, ◌+◌, ◌<◌, ◌≤◌, Bool, true, false, cond, List, [], ◌∷◌, Option, Some, None, ap, arith, get_or-set_other, get_or-set_same, inl, inr, length, length-set, map, ne_eqb, refl, set, subst, sym}
use Rattle.std.specs.Prelude.{◌==◌, ◌&&◌, All, option_map}
use Rattle.std.specs.Map.{lookup}
use Rattle.std.proofs.lemmas.Bool.{and_parts, cases_lt}
use Rattle.std.proofs.lemmas.List.{ext_get_or}
use Rattle.std.proofs.lemmas.List.Elements.{All-cons, All-head, All-nil, All-tail, All-weaker}
use Rattle.std.proofs.lemmas.List.Quantifiers.{position-Some}
use Rattle.hlc_stamp.specs.declared.id.NodeId.{NodeId}
use Rattle.hlc_stamp.specs.Order.{Pair}
use Rattle.hlc_log.specs.declared.log_event.LogEvent.{LogEvent}
use Rattle.hlc_log.specs.declared.log_event.LogKind.{LogKind}
use Rattle.hlc_log.specs.declared.log_event.LogKind.TheVariants.{Local, Outside, Receive, Restart, Send}
use Rattle.hlc_log.specs.declared.message_id.MessageId.{MessageId}
use Rattle.hlc_log.specs.declared.senders.SentAs.{SentAs}
use Rattle.hlc_log.specs.Events.{IsInRange, IsMessageBelow, IsNumbered, event_at, no_event, of_kind}
use Rattle.hlc_log.specs.Senders.{HasOther, apart_event, apart_from, apart_kind, first_sent, is_same_sent, is_same_stamp, is_sent_by, kind_received, message_sent_at, message_sent_by, own_message, received_from, receives_if, sender_at, sends_some, sent_message, told_apart}
use Rattle.hlc_log.proofs.Numbered.{numbered_at}

-- a message has a number below more than so many
below_more : (n more : ℕ) (kind : LogKind) → n ≤ more → IsMessageBelow n kind → IsMessageBelow more kind
below_more n more Local within below = tt
below_more n more (Send message) within below = omega arith
below_more n more (Receive message) within below = omega arith
below_more n more Restart within below = tt
below_more n more Outside within below = tt

pub numbered_more : (n more : ℕ) (events : List LogEvent) → n ≤ more → All (IsNumbered n) events → All (IsNumbered more) events
numbered_more n more events within numbered =
    All-weaker (IsNumbered n) (IsNumbered more)
    (λ event is. record { node = is.node; message = below_more n more event.kind within is.message }) events numbered

module _ (unnamed : MessageId) (messages : ℕ) where
  -- what the messages of sends say of a receive
  pub received_is : (events : List LogEvent) (sent : List (SentAs × MessageId))
      → ((key : SentAs) → lookup (is_same_sent key) sent ≡ message_sent_by unnamed messages events key.node key.stamp)
      → (sender : Option NodeId) (carried : Option Pair) → kind_received sent sender carried ≡ received_from unnamed messages events sender carried
  received_is events sent is None carried = refl
  received_is events sent is (Some node) None = refl
  received_is events sent is (Some node) (Some stamp) = ap receives_if (is (record { node = node; stamp = stamp }))

  module _ (senders : List (Option NodeId)) where
    abbrev apart : List LogEvent → ℕ → LogEvent → LogEvent
    apart events place event = apart_event unnamed messages senders events place event

    abbrev rest_apart : List LogEvent → ℕ → List LogEvent → List LogEvent
    rest_apart events place rest = apart_from unnamed messages senders events place rest

    pub length-apart : (events : List LogEvent) (place : ℕ) (rest : List LogEvent) → length (rest_apart events place rest) ≡ length rest
    length-apart events place [] = refl
    length-apart events place (event ∷ rest) = ap suc (length-apart events (place + 1) rest)

    apart_at : (events : List LogEvent) (place : ℕ) (rest : List LogEvent) (k : ℕ) → k < length rest
        → event_at (rest_apart events place rest) k ≡ apart events (place + k) (event_at rest k)
    apart_at events place [] k lt = absurd (omega (arith, lt))
    apart_at events place (event ∷ rest) zero lt = let same : place ≡ place + 0 = omega arith in ap (λ (n : ℕ). apart events n event) same
    apart_at events place (event ∷ rest) (suc k) lt =
        let same : place + 1 + k ≡ place + suc k = omega arith in
        apart_at events (place + 1) rest k (omega (arith, lt)) ∙ ap (λ (n : ℕ). apart events n (event_at rest k)) same

    -- the first so many events are told apart, and the others are as they were
    pub record AreApartUpTo (old new : List LogEvent) (n : ℕ) : Type 0 where
      pub size : length new ≡ length old
      pub done : (k : ℕ) → k < n → event_at new k ≡ apart old k (event_at old k)
      pub left : (k : ℕ) → n ≤ k → event_at new k ≡ event_at old k

    pub apart_none : (old : List LogEvent) → AreApartUpTo old old 0
    apart_none old = record {
      size = refl;
      done = λ k lt. absurd (omega (arith, lt));
      left = λ k within. refl;
    }

    pub apart_more : (old new : List LogEvent) (n : ℕ) (kind : LogKind) → AreApartUpTo old new n → n < length old
        → kind ≡ apart_kind unnamed messages senders old n (event_at old n).carried (event_at old n).kind
        → AreApartUpTo old (set new n (of_kind kind (event_at new n))) (n + 1)
    apart_more old new n kind h exists is =
        let event : LogEvent = of_kind kind (event_at new n) in
        let within : n < length new = omega (arith, exists, h.size) in
        let here : event_at (set new n event) n ≡ apart old n (event_at old n) =
        get_or-set_same new n event no_event within ∙ ap (of_kind kind) (h.left n (omega arith))
        ∙ ap (λ (kind : LogKind). of_kind kind (event_at old n)) is in
        record {
          size = length-set new n event ∙ h.size;
          done = λ k lt. elim (cases_lt k n) [
            | inl before ↦
                let other : k ≢ n = omega arith in
                get_or-set_other new n k event no_event other ∙ h.done k before
            | inr after ↦
                let same : k ≡ n = omega arith in
                subst (λ (k : ℕ). event_at (set new n event) k ≡ apart old k (event_at old k)) (sym same) here
          ];
          left = λ k within.
              let other : k ≢ n = omega arith in
              get_or-set_other new n k event no_event other ∙ h.left k (omega arith);
        }

    pub apart_all : (old new : List LogEvent) → AreApartUpTo old new (length old) → new ≡ told_apart unnamed messages senders old
    apart_all old new h =
        ext_get_or no_event new (told_apart unnamed messages senders old) (h.size ∙ sym (length-apart old 0 old))
        (λ k lt.
        let within : k < length old = omega (arith, h.size) in
        let same : k ≡ 0 + k = omega arith in
        h.done k within ∙ ap (λ (n : ℕ). apart old n (event_at old k)) same ∙ sym (apart_at old 0 old k within))

    -- where no message is unnamed, each event stays
    named_kind : (events : List LogEvent) (place : ℕ) (carried : Option Pair) (kind : LogKind) → HasOther unnamed kind
        → apart_kind unnamed messages senders events place carried kind ≡ kind
    named_kind events place carried Local other = refl
    named_kind events place carried (Send message) other =
        ap (λ (b : Bool). Send (cond b (record { 0 = messages + place }) message)) (ne_eqb message.0 unnamed.0 other)
    named_kind events place carried (Receive message) other =
        ap (λ (b : Bool). cond b (received_from unnamed messages events (sender_at senders place) carried) (Receive message))
        (ne_eqb message.0 unnamed.0 other)
    named_kind events place carried Restart other = refl
    named_kind events place carried Outside other = refl

    pub named_stay : (events : List LogEvent) (place : ℕ) (rest : List LogEvent) → All (λ (event : LogEvent). HasOther unnamed event.kind) rest
        → rest_apart events place rest ≡ rest
    named_stay events place [] named = refl
    named_stay events place (event ∷ rest) named =
        let Named : LogEvent → Type 0 = λ event. HasOther unnamed event.kind in
        let here = ap (λ (kind : LogKind). of_kind kind event)
        (named_kind events place event.carried event.kind (All-head Named event rest named)) in
        let there = named_stay events (place + 1) rest (All-tail Named event rest named) in
        λ i. here i ∷ there i

    -- each event keeps its line
    pub lines_apart : (events : List LogEvent) (place : ℕ) (rest : List LogEvent) → map (λ (e : LogEvent). e.line) (rest_apart events place rest) ≡ map (λ (e : LogEvent). e.line) rest
    lines_apart events place [] = refl
    lines_apart events place (event ∷ rest) = ap (λ (lines : List ℕ). event.line ∷ lines) (lines_apart events (place + 1) rest)

    -- none becomes a restart
    received_no_restart : (o : Option MessageId) → receives_if o ≡ Restart → ⊥
    received_no_restart None is = cc
    received_no_restart (Some message) is = cc

    from_no_restart : (events : List LogEvent) (sender : Option NodeId) (carried : Option Pair) → received_from unnamed messages events sender carried ≡ Restart → ⊥
    from_no_restart events None carried is = cc
    from_no_restart events (Some node) None is = cc
    from_no_restart events (Some node) (Some stamp) is = received_no_restart (message_sent_by unnamed messages events node stamp) is

    was_restart : (events : List LogEvent) (place : ℕ) (carried : Option Pair) (kind : LogKind)
        → apart_kind unnamed messages senders events place carried kind ≡ Restart → kind ≡ Restart
    was_restart events place carried Local is = is
    was_restart events place carried (Send message) is = absurd (cc)
    was_restart events place carried (Receive message) is = by_test (message.0 == unnamed.0) is where
      by_test : (test : Bool) → cond test (received_from unnamed messages events (sender_at senders place) carried) (Receive message) ≡ Restart
          → Receive message ≡ Restart
      by_test true is = absurd (from_no_restart events (sender_at senders place) carried is)
      by_test false is = is
    was_restart events place carried Restart is = is
    was_restart events place carried Outside is = is

    pub in_range_apart : (events : List LogEvent) (place : ℕ) (rest : List LogEvent) → All IsInRange rest → All IsInRange (rest_apart events place rest)
    in_range_apart events place [] h = All-nil IsInRange
    in_range_apart events place (event ∷ rest) h =
        let here = All-head IsInRange event rest h in
        All-cons IsInRange (apart events place event) (rest_apart events (place + 1) rest)
        (record {
          positive = here.positive;
          in_range = here.in_range;
          floor = λ is. here.floor (was_restart events place event.carried event.kind is);
          carried = here.carried;
          told = λ is. here.told (was_restart events place event.carried event.kind is);
        })
        (in_range_apart events (place + 1) rest (All-tail IsInRange event rest h))

    -- each message has a number below those that sends may get
    module _ (events : List LogEvent) (numbered : All (IsNumbered messages) events) where
      abbrev all : ℕ
      all = messages + length events

      own_below : (place : ℕ) (message : MessageId) → place < length events → message.0 < messages
          → (own_message unnamed messages place message).0 < all
      own_below place message exists below = by_test (message.0 == unnamed.0) where
        by_test : (test : Bool) → (let m : MessageId = cond test (record { 0 = messages + place }) message in m).0 < all
        by_test true = omega arith
        by_test false = omega arith

      sent_below : (kind : LogKind) → sends_some kind ≡ true → IsMessageBelow messages kind → (sent_message kind).0 < messages
      sent_below Local sends below = absurd (cc)
      sent_below (Send message) sends below = below
      sent_below (Receive message) sends below = absurd (cc)
      sent_below Restart sends below = absurd (cc)
      sent_below Outside sends below = absurd (cc)

      received_below : (node : NodeId) (stamp : Pair) (o : Option ℕ) → first_sent events node stamp ≡ o
          → IsMessageBelow all (receives_if (option_map (message_sent_at unnamed messages events) o))
      received_below node stamp None is = tt
      received_below node stamp (Some place) is =
          let found = position-Some (is_sent_by node stamp) events place no_event is in
          let event = event_at events place in
          let sends = (and_parts (sends_some event.kind) ((event.node.0 == node.0) && is_same_stamp event.stamp stamp) found.1).0 in
          own_below place (sent_message event.kind) found.0 (sent_below event.kind sends (numbered_at messages events numbered place found.0).message)

      from_below : (sender : Option NodeId) (carried : Option Pair) → IsMessageBelow all (received_from unnamed messages events sender carried)
      from_below None carried = tt
      from_below (Some node) None = tt
      from_below (Some node) (Some stamp) = received_below node stamp (first_sent events node stamp) refl

      kind_below : (place : ℕ) (carried : Option Pair) (kind : LogKind) → place < length events → IsMessageBelow messages kind
          → IsMessageBelow all (apart_kind unnamed messages senders events place carried kind)
      kind_below place carried Local exists below = tt
      kind_below place carried (Send message) exists below = own_below place message exists below
      kind_below place carried (Receive message) exists below = by_test (message.0 == unnamed.0) where
        by_test : (test : Bool) → IsMessageBelow all (cond test (received_from unnamed messages events (sender_at senders place) carried) (Receive message))
        by_test true = from_below (sender_at senders place) carried
        by_test false = omega arith
      kind_below place carried Restart exists below = tt
      kind_below place carried Outside exists below = tt

      numbered_from : (place : ℕ) (rest : List LogEvent) → place + length rest ≤ length events → All (IsNumbered messages) rest
          → All (IsNumbered all) (rest_apart events place rest)
      numbered_from place [] within h = All-nil (IsNumbered all)
      numbered_from place (event ∷ rest) within h =
          let here = All-head (IsNumbered messages) event rest h in
          All-cons (IsNumbered all) (apart events place event) (rest_apart events (place + 1) rest)
          (record { node = here.node; message = kind_below place event.carried event.kind (omega (arith, within)) here.message })
          (numbered_from (place + 1) rest (omega (arith, within)) (All-tail (IsNumbered messages) event rest h))

      pub numbered_apart : All (IsNumbered all) (told_apart unnamed messages senders events)
      numbered_apart = numbered_from 0 events (omega arith) numbered
