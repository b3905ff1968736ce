-- Logs whose messages that are sent again are told apart.
use Rattle.std.proofs.Common.{◌≡◌, ◌≢◌, ◌∙◌, ℕ, zero, suc, ◌+◌, ◌*◌, ◌<◌, ◌≤◌, Bool, true, false, List, Option, Some, None, ap, arith, eqb-true, get_or, get_or-set_other, get_or-set_same, inl, inr, length, length-set, map, refl, set, subst, sym}
use Rattle.std.specs.Prelude.{◌⊎◌, All, IfSome, if◌then◌else◌}
use Rattle.std.specs.Option.{option_or}
use Rattle.std.proofs.lemmas.Bool.{and_parts, cases_lt, not-false}
use Rattle.std.proofs.lemmas.List.{ext_get_or, get_or-map, get_or_default, length-map}
use Rattle.std.proofs.lemmas.List.Elements.{All-from_get_or, All-get_or}
use Rattle.std.proofs.lemmas.List.FromFn.{fill_by_all, get_or-map-range_with_len, length-map-range_with_len}
use Rattle.hlc_stamp.specs.declared.id.EventId.{EventId}
use Rattle.hlc_stamp.specs.declared.limits.TheConstants.{MAX_CAPACITY}
use Rattle.hlc_stamp.specs.Order.{Pair}
use Rattle.hlc_log.specs.declared.log_event.LogEvent.{LogEvent}
use Rattle.hlc_log.specs.declared.log_event.LogKind.{LogKind}
use Rattle.hlc_log.specs.declared.log_event.LogKind.TheVariants.{Local, Outside, Receive, Restart, Send}
use Rattle.hlc_log.specs.declared.message_id.MessageId.{MessageId}
use Rattle.hlc_log.specs.declared.resent.Resent.{Resent}
use Rattle.hlc_log.specs.declared.resent.Resent.TheVariants.{First, Last}
use Rattle.hlc_log.specs.declared.resent.SentWith.{SentWith}
use Rattle.hlc_log.specs.Events.{IsInRange, IsMessageBelow, IsNumbered, event_at, no_event, of_kind}
use Rattle.hlc_log.specs.Messages.{EachIsSentOnce, Sends}
use Rattle.hlc_log.specs.Resent.{asked_send, claimed_in, claimed_send, first_send, is_at, is_resent, latest_before, message_by, own_unless_first, resent_before, resent_count, resent_event, resent_kind, send_of, sends, sends_again, sends_with, with_resent}
use Rattle.hlc_log.specs.Senders.{is_same_stamp}
use Rattle.hlc_log.specs.Unsent.{is_send}
use Rattle.hlc_log.proofs.Numbered.{numbered_at}
use Rattle.hlc_log.proofs.ResentSends.{first_passes, latest_passes}

module _ (resent : Resent) (messages : ℕ) (events : List LogEvent) where
  abbrev all : List LogEvent
  all = with_resent resent messages events

  abbrev becomes : ℕ → LogEvent
  becomes place = resent_event events messages resent place (event_at events place)

  pub resent_size : length all ≡ length events
  resent_size = length-map-range_with_len becomes 0 (length events)

  pub resent_at : (k : ℕ) → k < length events → event_at all k ≡ becomes k
  resent_at k lt = get_or-map-range_with_len becomes 0 (length events) k k no_event lt (omega arith)

  pub resent_line : (k : ℕ) (d : LogEvent) → k < length events → (get_or all k d).line ≡ (get_or events k d).line
  resent_line k d lt =
      ap (λ (e : LogEvent). e.line) (get_or-map-range_with_len becomes 0 (length events) k k d lt (omega arith)
      ∙ ap (of_kind (becomes k).kind) (get_or_default events k no_event d lt))

  -- the first so many events are told apart, and the others are as they were
  pub record AreResentUpTo (now : List LogEvent) (n : ℕ) : Type 0 where
    pub size : length now ≡ length events
    pub done : (k : ℕ) → k < n → event_at now k ≡ becomes k
    pub left : (k : ℕ) → n ≤ k → event_at now k ≡ event_at events k

  pub resent_none_yet : AreResentUpTo events 0
  resent_none_yet = record {
    size = refl;
    done = λ k lt. absurd (omega (arith, lt));
    left = λ k within. refl;
  }

  pub resent_more : (now : List LogEvent) (n : ℕ) (kind : LogKind) → AreResentUpTo now n → n < length events
      → kind ≡ resent_kind events messages resent n (event_at events n).carried (event_at events n).kind
      → AreResentUpTo (set now n (of_kind kind (event_at now n))) (n + 1)
  resent_more now n kind h exists is =
      let event : LogEvent = of_kind kind (event_at now n) in
      let within : n < length now = omega (arith, exists, h.size) in
      let here : event_at (set now n event) n ≡ becomes n =
      get_or-set_same now n event no_event within ∙ ap (of_kind kind) (h.left n (omega arith))
      ∙ ap (λ (kind : LogKind). of_kind kind (event_at events n)) is in
      record {
        size = length-set now n event ∙ h.size;
        done = λ k lt. elim (cases_lt k n) [
          | inl before ↦
              let other : k ≢ n = omega arith in
              get_or-set_other now n k event no_event other ∙ h.done k before
          | inr after ↦
              let same : k ≡ n = omega arith in
              subst (λ (k : ℕ). event_at (set now n event) k ≡ becomes k) (sym same) here
        ];
        left = λ k within.
            let other : k ≢ n = omega arith in
            get_or-set_other now n k event no_event other ∙ h.left k (omega arith);
      }

  pub resent_all : (now : List LogEvent) → AreResentUpTo now (length events) → now ≡ all
  resent_all now h = fill_by_all becomes now (length events) no_event h.size h.done

  -- what the kind of an event doesn't change stays
  pub resent_keeps : {X : Type 0} (of : LogEvent → X) → ((kind : LogKind) (event : LogEvent) → of (of_kind kind event) ≡ of event)
      → map of all ≡ map of events
  resent_keeps of keeps =
      ext_get_or (of no_event) (map of all) (map of events) (length-map all of ∙ resent_size ∙ sym (length-map events of)) (λ k lt.
      let many = length-map all of in
      let within : k < length events = omega (arith, lt, many, resent_size) in
      get_or-map of all k no_event (of no_event) (omega (arith, within, resent_size)) ∙ ap of (resent_at k within)
      ∙ keeps _ (event_at events k) ∙ sym (get_or-map of events k no_event (of no_event) within))

  pub resent_nodes : (nodes : ℕ) → All (λ (e : LogEvent). e.node.0 < nodes) events → All (λ (e : LogEvent). e.node.0 < nodes) all
  resent_nodes nodes h = All-from_get_or (λ (e : LogEvent). e.node.0 < nodes) all no_event (λ k lt.
      let within : k < length events = omega (arith, resent_size) in
      subst (λ (e : LogEvent). e.node.0 < nodes) (sym (resent_at k within))
      (All-get_or (λ (e : LogEvent). e.node.0 < nodes) events k no_event within h))

  -- none becomes a restart
  was_restart : (place : ℕ) (carried : Option Pair) (kind : LogKind) → resent_kind events messages resent place carried kind ≡ Restart → kind ≡ Restart
  was_restart place carried Local is = is
  was_restart place carried (Send message) is = absurd (cc)
  was_restart place carried (Receive message) is = absurd (cc)
  was_restart place carried Restart is = is
  was_restart place carried Outside is = is

  pub resent_in_range : All IsInRange events → All IsInRange all
  resent_in_range h = All-from_get_or IsInRange all no_event (λ k lt.
      let within : k < length events = omega (arith, resent_size) in
      let was = All-get_or IsInRange events k no_event within h in
      let event = event_at events k in
      subst IsInRange (sym (resent_at k within)) (record {
        positive = was.positive;
        in_range = was.in_range;
        floor = λ is. was.floor (was_restart k event.carried event.kind is);
        carried = was.carried;
        told = λ is. was.told (was_restart k event.carried event.kind is);
      }))

  -- a receive is of a send of its message, if there is one
  claimed_sends_it : (m : ℕ) (carried : Option Pair) (e : EventId) → claimed_send events m carried ≡ Some e
      → (e.0 < length events) × (sends m (event_at events e.0) ≡ true)
  claimed_sends_it m None e is = absurd (cc)
  claimed_sends_it m (Some stamp) e is =
      let found = first_passes (sends_with m stamp) events (length events) e is in
      let event = event_at events e.0 in
      (found.0, (and_parts (is_send m event.kind) (is_same_stamp event.stamp stamp) found.1).0)

  abbrev IsSendOf : ℕ → EventId → Type 0
  IsSendOf m e = (e.0 < length events) × (sends m (event_at events e.0) ≡ true)

  or_one : (P : EventId → Type 0) (a b : Option EventId) (e : EventId) → ((e : EventId) → a ≡ Some e → P e) → ((e : EventId) → b ≡ Some e → P e)
      → option_or a b ≡ Some e → P e
  or_one P None b e first second is = second e is
  or_one P (Some x) b e first second is = first e is

  asked_sends_it : (how : Resent) (m place : ℕ) (e : EventId) → place ≤ length events → asked_send events how m place ≡ Some e → IsSendOf m e
  asked_sends_it First m place e within is = first_passes (sends m) events (length events) e is
  asked_sends_it Last m place e within is =
      or_one (IsSendOf m) (latest_before (sends m) events place) (first_send events m) e
      (λ x found. let passes = latest_passes (sends m) events place x found in let before = passes.0 in (omega arith, passes.1))
      (λ x found. first_passes (sends m) events (length events) x found) is

  sends_it : (m place : ℕ) (carried : Option Pair) (e : EventId) → place ≤ length events → send_of events resent m place carried ≡ Some e → IsSendOf m e
  sends_it m place carried e within is =
      or_one (IsSendOf m) (claimed_send events m carried) (asked_send events resent m place) e
      (claimed_sends_it m carried) (λ x found. asked_sends_it resent m place x within found) is

  -- what a receive finds of its message
  pub send_is : (place : ℕ) (m : MessageId) (sent : List (SentWith × EventId)) (read told : Option Pair) (claimed asked send : Option EventId)
      → send ≡ option_or claimed asked → claimed ≡ claimed_in sent m read → read ≡ told → claimed_in sent m told ≡ claimed_send events m.0 told
      → asked ≡ asked_send events resent m.0 place → send ≡ send_of events resent m.0 place told
  send_is place m sent read told claimed asked send chosen found same claims asks =
      chosen ∙ (λ i. option_or (found i) (asks i))
      ∙ ap (λ (o : Option EventId). option_or o (asked_send events resent m.0 place)) (ap (claimed_in sent m) same ∙ claims)

  pub send_within : (m place : ℕ) (carried : Option Pair) (send : Option EventId) → place ≤ length events → length events ≤ MAX_CAPACITY
      → messages ≤ 2 * MAX_CAPACITY → send ≡ send_of events resent m place carried → IfSome send (λ e. messages + e.0 < 4294967296)
  send_within m place carried None within few least is = tt
  send_within m place carried (Some e) within few least is =
      let found = sends_it m place carried e within (sym is) in
      let exists = found.0 in
      omega arith

  -- each message has a number below those that sends may get
  abbrev bound : ℕ
  bound = messages + length events

  own_below : (place : ℕ) (message : MessageId) → place < length events → message.0 < messages
      → (own_unless_first messages (first_send events message.0) place message).0 < bound
  own_below place message exists below = by_test (is_at place (first_send events message.0)) where
    by_test : (test : Bool) → (let m : MessageId = if test then message else record { 0 = messages + place } in m).0 < bound
    by_test true = omega arith
    by_test false = omega arith

  message_below : (message : MessageId) (send : Option EventId) → message.0 < messages → ((e : EventId) → send ≡ Some e → e.0 < length events)
      → (message_by messages (first_send events message.0) message send).0 < bound
  message_below message None below exists = omega arith
  message_below message (Some e) below exists = own_below e.0 message (exists e refl) below

  kind_below : (place : ℕ) (carried : Option Pair) (kind : LogKind) → place < length events → IsMessageBelow messages kind
      → IsMessageBelow bound (resent_kind events messages resent place carried kind)
  kind_below place carried Local exists below = tt
  kind_below place carried (Send message) exists below = own_below place message exists below
  kind_below place carried (Receive message) exists below =
      message_below message (send_of events resent message.0 place carried) below
      (λ e is. (sends_it message.0 place carried e (omega arith) is).0)
  kind_below place carried Restart exists below = tt
  kind_below place carried Outside exists below = tt

  pub resent_numbered : All (IsNumbered messages) events → All (IsNumbered bound) all
  resent_numbered numbered = All-from_get_or (IsNumbered bound) all no_event (λ k lt.
      let within : k < length events = omega (arith, resent_size) in
      let was = numbered_at messages events numbered k within in
      let event = event_at events k in
      subst (IsNumbered bound) (sym (resent_at k within))
      (record { node = was.node; message = kind_below k event.carried event.kind within was.message }))

  -- no message is sent again
  sent_as : (place : ℕ) (carried : Option Pair) (kind : LogKind) (m : ℕ) → resent_kind events messages resent place carried kind ≡ Send (record { 0 = m })
      → (message : MessageId) × (kind ≡ Send message) × ((own_unless_first messages (first_send events message.0) place message).0 ≡ m)
  sent_as place carried Local m is = absurd (cc)
  sent_as place carried (Send message) m is = (message, refl, cc)
  sent_as place carried (Receive message) m is = absurd (cc)
  sent_as place carried Restart m is = absurd (cc)
  sent_as place carried Outside m is = absurd (cc)

  sends_as : (e m : ℕ) → Sends all e m
      → (message : MessageId) × ((event_at events e).kind ≡ Send message) × ((own_unless_first messages (first_send events message.0) e message).0 ≡ m)
  sends_as e m h =
      let exists : e < length events = let before = h.exists in omega (arith, resent_size) in
      let event = event_at events e in
      sent_as e event.carried event.kind m (sym (ap (λ (x : LogEvent). x.kind) (resent_at e exists)) ∙ h.kind)

  abbrev place_in : Option EventId → ℕ
  place_in None = 0
  place_in (Some e) = e.0

  one_place : (d e : ℕ) → ◌≡◌ {A = Option EventId} (Some (record { 0 = d })) (Some (record { 0 = e })) → d ≡ e
  one_place d e same = ap place_in same

  -- either it is the first, or the number is its own
  own_or_first : (place : ℕ) (message : MessageId) (first : Option EventId) (test : Bool) → is_at place first ≡ test
      → ((first ≡ Some (record { 0 = place })) × ((own_unless_first messages first place message).0 ≡ message.0))
      ⊎ ((own_unless_first messages first place message).0 ≡ messages + place)
  own_or_first place message None test is = inr refl
  own_or_first place message (Some e) true is =
      let same : e.0 ≡ place = eqb-true e.0 place is in
      inl (λ i. Some (record { 0 = same i }), ap (λ (b : Bool). (let m : MessageId = if b then message else record { 0 = messages + place } in m).0) is)
  own_or_first place message (Some e) false is =
      inr (ap (λ (b : Bool). (let m : MessageId = if b then message else record { 0 = messages + place } in m).0) is)

  pub resent_once : All (IsNumbered messages) events → EachIsSentOnce all
  resent_once numbered e (d, m, both) =
      let earlier = both.earlier in
      let a = sends_as d m both.first in
      let b = sends_as e m both.second in
      let d_exists : d < length events = let before = both.first.exists in omega (arith, resent_size) in
      let e_exists : e < length events = let before = both.second.exists in omega (arith, resent_size) in
      let a_below : (a.0).0 < messages = subst (IsMessageBelow messages) a.1 (numbered_at messages events numbered d d_exists).message in
      let b_below : (b.0).0 < messages = subst (IsMessageBelow messages) b.1 (numbered_at messages events numbered e e_exists).message in
      let a_is = a.2 in
      let b_is = b.2 in
      elim (own_or_first d a.0 (first_send events (a.0).0) (is_at d (first_send events (a.0).0)) refl) [
        | inl first ↦
            elim (own_or_first e b.0 (first_send events (b.0).0) (is_at e (first_send events (b.0).0)) refl) [
              | inl other ↦
                  let number = first.1 in
                  let other_number = other.1 in
                  let same : (a.0).0 ≡ (b.0).0 = omega arith in
                  let equal = one_place d e (sym first.0 ∙ ap (first_send events) same ∙ other.0) in
                  omega (arith, equal, earlier)
              | inr own ↦ let number = first.1 in omega arith
            ]
        | inr own ↦
            elim (own_or_first e b.0 (first_send events (b.0).0) (is_at e (first_send events (b.0).0)) refl) [
              | inl other ↦ let number = other.1 in omega arith
              | inr other ↦ omega arith
            ]
      ]

  -- a log in which no event sends again stays
  counted : (test : Bool) (n : ℕ) → n + (if test then 1 else 0) ≡ 0 → (n ≡ 0) × (test ≡ false)
  counted true n is = absurd (omega arith)
  counted false n is = (omega arith, refl)

  none_before : (n k : ℕ) → resent_before events n ≡ 0 → k < n → is_resent events k ≡ false
  none_before zero k none lt = absurd (omega (arith, lt))
  none_before (suc n) k none lt =
      let parts = counted (is_resent events n) (resent_before events n) none in
      elim (cases_lt k n) [
        | inl before ↦ none_before n k parts.0 before
        | inr after ↦
            let same : k ≡ n = omega arith in
            ap (is_resent events) same ∙ parts.1
      ]

  module _ (none : resent_count events ≡ 0) where
    first_is : (place : ℕ) (kind : LogKind) (message : MessageId) → sends_again events place kind ≡ false → kind ≡ Send message
        → is_at place (first_send events message.0) ≡ true
    first_is place Local message again is = absurd (cc)
    first_is place (Send m) message again is =
        let same : m ≡ message = cc in
        subst (λ (m : MessageId). is_at place (first_send events m.0) ≡ true) same (not-false (is_at place (first_send events m.0)) again)
    first_is place (Receive m) message again is = absurd (cc)
    first_is place Restart message again is = absurd (cc)
    first_is place Outside message again is = absurd (cc)

    send_kind : (m : ℕ) (kind : LogKind) → is_send m kind ≡ true → kind ≡ Send (record { 0 = m })
    send_kind m Local is = absurd (cc)
    send_kind m (Send message) is = let same : message.0 ≡ m = eqb-true message.0 m is in λ i. Send (record { 0 = same i })
    send_kind m (Receive message) is = absurd (cc)
    send_kind m Restart is = absurd (cc)
    send_kind m Outside is = absurd (cc)

    stays_own : (place : ℕ) (message : MessageId) → place < length events → (event_at events place).kind ≡ Send message
        → own_unless_first messages (first_send events message.0) place message ≡ message
    stays_own place message exists is =
        let first = first_is place (event_at events place).kind message (none_before (length events) place none exists) is in
        ap (λ (b : Bool). (let m : MessageId = if b then message else record { 0 = messages + place } in m)) first

    stays_received : (message : MessageId) (send : Option EventId) → ((e : EventId) → send ≡ Some e → IsSendOf message.0 e)
        → message_by messages (first_send events message.0) message send ≡ message
    stays_received message None of = refl
    stays_received message (Some e) of =
        let sends = of e refl in
        stays_own e.0 message sends.0 (send_kind message.0 (event_at events e.0).kind sends.1)

    stays_kind : (place : ℕ) (carried : Option Pair) (kind : LogKind) → place < length events → (event_at events place).kind ≡ kind
        → resent_kind events messages resent place carried kind ≡ kind
    stays_kind place carried Local exists is = refl
    stays_kind place carried (Send message) exists is = ap (λ (m : MessageId). Send m) (stays_own place message exists is)
    stays_kind place carried (Receive message) exists is =
        ap (λ (m : MessageId). Receive m) (stays_received message (send_of events resent message.0 place carried)
        (λ e found. sends_it message.0 place carried e (omega arith) found))
    stays_kind place carried Restart exists is = refl
    stays_kind place carried Outside exists is = refl

    pub none_resent : events ≡ all
    none_resent = fill_by_all becomes events (length events) no_event refl (λ k lt.
        let event = event_at events k in
        sym (ap (λ (kind : LogKind). of_kind kind event) (stays_kind k event.carried event.kind lt refl)))
