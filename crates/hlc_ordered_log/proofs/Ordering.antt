-- The events of a log, taken one after another in a causal order.
use Rattle.std.proofs.Common.{◌≡◌, ◌≢◌, ℕ, ◌+◌, ◌<◌, inl, inr, List, [], ◌∷◌, ◌++◌, get_or, length, map, replicate, Option, Some, None, arith, refl, subst, sym, ap, ◌∙◌}
use Rattle.std.specs.Prelude.{All, Contains, option_and_then, slice_index_or, slice_set}
use Rattle.std.proofs.Math.Dec.{eqb}
use Rattle.std.proofs.lemmas.List.{ext_get_or}
use Rattle.std.proofs.lemmas.Map.Keys.{IsDistinct-from_apart}
use Rattle.std.proofs.lemmas.Map.Steps.{length-le_from_distinct_below}
use Rattle.std.proofs.lemmas.Map.Views.{Contains-from_any}
use Rattle.std.proofs.lemmas.List.Quantifiers.{position-Some}
use Rattle.std.proofs.lemmas.Bool.{cases_eq, eqb-true, ne_eqb}
use Rattle.std.proofs.lemmas.List.{get_or-map, get_or-replicate, get_or-set_other, get_or-set_same, get_or_append_left, get_or_default, get_or_push, length-map, length-replicate, length-set, length_push}
use Rattle.hlc_stamp.specs.declared.id.EventId.{EventId}
use Rattle.hlc_stamp.specs.Ids.{places_of}
use Rattle.hlc_stamp.specs.Order.{Pair, zero_pair}
use Rattle.hlc_causality.specs.Assignment.{pair_at}
use Rattle.hlc_causality.specs.Feasible.{IsLeastFeasible}
use Rattle.hlc_causality.specs.ClockEvents.{ClockEvents}
use Rattle.hlc_execution.specs.Execution.{HasLeastClockStamps, StoredExecution, clock_of}
use Rattle.hlc_causality.specs.Causality.{Skeleton, SkeletonEvent, skeleton_at}
use Rattle.hlc_causality.specs.Neighbours.{place_of}
use Rattle.hlc_execution.specs.Execution.{IsSource, MayFollow}
use Rattle.hlc_log.specs.CausalOrder.{IsCausalOrder, IsCausalPrefix, place_at}
use Rattle.std.proofs.lemmas.List.Elements.{All-get_or}
use Rattle.hlc_log.specs.Events.{IsInRange, IsMessageBelow, IsNumbered, event_at, no_event}
use Rattle.hlc_log.specs.Messages.{AreMessagesSound, EachIsSentOnce, Receives, Sends, SendsTo}
use Rattle.hlc_log.specs.OrderSkeleton.{index_in, position_of, send_place, skeleton_event_in, skeleton_in}
use Rattle.hlc_log.specs.Unsent.{is_send}
use Rattle.hlc_log.specs.declared.log_event.LogEvent.{LogEvent}
use Rattle.hlc_log.specs.declared.log_event.LogKind.{LogKind}
use Rattle.hlc_log.specs.declared.log_event.LogKind.TheVariants as kind
use Rattle.hlc_log.specs.declared.message_id.MessageId.{MessageId}
use Rattle.hlc_causality.proofs.LeastFeasible.{least_feasible_place_by_place}
use Rattle.hlc_causality.proofs.PlacesBelow.{length-places_below, place_at as place_at_below}
use Rattle.hlc_causality.specs.Places.{places_below}
use Rattle.hlc_log.proofs.CausalOrders.{length-order-le, place_of_contained}
use Rattle.hlc_log.proofs.Numbered.{numbered_at}
use Rattle.hlc_log.proofs.OrderSkeletons.{length-skeleton_in, needed_before, place_of_index, place_of_position, send_is, sends_if, skeleton_in_at}
use Rattle.hlc_ordered_log.specs.InOrder.{ArePositions, AreSeenAs, AreSendsOf, EachDiffers, IsSeenAs, NamesSendIn, NamesSendOf, claimed_in, event_in_order, send_received, with_send}

-- a kind is one of the three
abbrev is_send_of : LogKind → Option ℕ
is_send_of kind.Local = None
is_send_of (kind.Send m) = Some m.0
is_send_of (kind.Receive m) = None
is_send_of kind.Restart = None
is_send_of kind.Outside = None

abbrev is_receive_of : LogKind → Option ℕ
is_receive_of kind.Local = None
is_receive_of (kind.Send m) = None
is_receive_of (kind.Receive m) = Some m.0
is_receive_of kind.Restart = None
is_receive_of kind.Outside = None

no_send_and_receive : (k : LogKind) (m n : ℕ) → k ≡ kind.Send (record { 0 = m }) → k ≡ kind.Receive (record { 0 = n }) → ⊥
no_send_and_receive k m n sends receives =
    let bad : ◌≡◌ {A = Option ℕ} (Some m) None = ap is_send_of (sym sends ∙ receives) in
    cc bad

same_sent : (k : LogKind) (m n : ℕ) → k ≡ kind.Send (record { 0 = m }) → k ≡ kind.Send (record { 0 = n }) → m ≡ n
same_sent k m n one other =
    let same : ◌≡◌ {A = Option ℕ} (Some m) (Some n) = ap is_send_of (sym one ∙ other) in
    cc same

module _ (events : List LogEvent) (order : List ℕ) where
  -- whether an event receives anything, by its kind
  no_send_named : (k : ℕ) (kd : LogKind) → (event_in_order events order k).kind ≡ kd → is_receive_of kd ≡ None
      → NamesSendIn events order k None
  no_send_named k kd is none e (m, sends, receives) =
      let bad : ◌≡◌ {A = Option ℕ} None (Some m) = sym none ∙ ap is_receive_of (sym is ∙ receives.kind) in
      cc bad

  -- the send of what the next event receives is among those before it
  module _ (k : ℕ) (within : k < length order) (causal : IsCausalPrefix events order) (sound : AreMessagesSound events) (sends : List (Option EventId))
      (are : AreSendsOf events order k sends) where
    receives_here : (m : MessageId) → (event_in_order events order k).kind ≡ kind.Receive m → Receives events (place_at order k) m.0
    receives_here m is = record { exists = (causal k within).exists; kind = is }

    sent_before : (m : MessageId) → (event_in_order events order k).kind ≡ kind.Receive m → (o : Option EventId) → NamesSendOf events order k m.0 o
        → NamesSendIn events order k (place_of o)
    sent_before m is (Some j) named = (named.0, (m.0, named.1, receives_here m is))
    sent_before m is None none = absurd (sound.sent (place_at order k) (
      m.0,
      receives_here m is,
      λ e sent.
          let inside = (causal k within).needed e (inr (m.0, sent, receives_here m is)) in
          let at = place_of_contained events order k e (omega arith) inside in
          none at.0 at.1 (subst (λ (x : ℕ). Sends events x m.0) (sym at.2) sent),
    ))

    pub send_is_named : (kd : LogKind) → (event_in_order events order k).kind ≡ kd → IsMessageBelow (length sends) kd
        → NamesSendIn events order k (place_of (send_received sends kd))
    send_is_named kind.Local is below = no_send_named k kind.Local is refl
    send_is_named (kind.Send m) is below = no_send_named k (kind.Send m) is refl
    send_is_named kind.Restart is below = no_send_named k kind.Restart is refl
    send_is_named kind.Outside is below = no_send_named k kind.Outside is refl
    send_is_named (kind.Receive m) is below = sent_before m is (slice_index_or sends m.0 None) (are m.0 below)

    -- where the sends stand once this event has its place
    after_other : (m : ℕ) → ¬ Sends events (place_at order k) m → (o : Option EventId) → NamesSendOf events order k m o → NamesSendOf events order (k + 1) m o
    after_other m none (Some j) named =
        let before = named.0 in
        (omega arith, named.1)
    after_other m none None before = λ j lt sent. elim (cases_eq j k) [
      | inl here ↦ none (subst (λ (x : ℕ). Sends events (place_at order x) m) here sent)
      | inr ne ↦ before j (omega arith) sent
    ]

    not_sent_here : (kd : LogKind) → (event_in_order events order k).kind ≡ kd → is_send_of kd ≡ None → (m : ℕ) → ¬ Sends events (place_at order k) m
    not_sent_here kd is none m sent =
        let bad : ◌≡◌ {A = Option ℕ} None (Some m) = sym none ∙ ap is_send_of (sym is ∙ sent.kind) in
        cc bad

    pub sends_are_kept : (kd : LogKind) → (event_in_order events order k).kind ≡ kd → IsMessageBelow (length sends) kd → (position : EventId) → position.0 ≡ k
        → AreSendsOf events order (k + 1) (with_send sends kd position)
    sends_are_kept kind.Local is below position at = λ m lt. after_other m (not_sent_here kind.Local is refl m) (slice_index_or sends m None) (are m lt)
    sends_are_kept kind.Restart is below position at = λ m lt.
        after_other m (not_sent_here kind.Restart is refl m) (slice_index_or sends m None) (are m lt)
    sends_are_kept kind.Outside is below position at = λ m lt.
        after_other m (not_sent_here kind.Outside is refl m) (slice_index_or sends m None) (are m lt)
    sends_are_kept (kind.Receive n) is below position at = λ m lt.
        after_other m (not_sent_here (kind.Receive n) is refl m) (slice_index_or sends m None) (are m lt)
    sends_are_kept (kind.Send n) is below position at = λ m lt.
        let size = length-set sends n.0 (Some position) in
        elim (cases_eq m n.0) [
          | inl same ↦
              let sent : Sends events (place_at order position.0) m =
              subst (λ (x : ℕ). Sends events (place_at order x) m) (sym at)
              (record { exists = (causal k within).exists; kind = is ∙ ap (λ (x : ℕ). kind.Send (record { 0 = x })) (sym same) }) in
              subst (NamesSendOf events order (k + 1) m)
              (sym (ap (λ (x : ℕ). slice_index_or (slice_set sends n.0 (Some position)) x None) same ∙ get_or-set_same sends n.0 (Some position) None below))
              (omega arith, sent)
          | inr ne ↦
              subst (NamesSendOf events order (k + 1) m) (sym (get_or-set_other sends n.0 m (Some position) None ne))
              (after_other m (λ sent. ne (sym (same_sent (event_in_order events order k).kind n.0 m is sent.kind))) (slice_index_or sends m None)
              (are m (omega arith)))
        ]

  -- one event more is seen
  pub seen_push : (k : ℕ) (s : Skeleton) (x : SkeletonEvent) → AreSeenAs events order k s → IsSeenAs events order k x
      → AreSeenAs events order (k + 1) (s ++ x ∷ [])
  seen_push k s x are is =
      let none : SkeletonEvent = record { node = 0; reading = 0; send = None } in
      record {
        one_each = length_push s x ∙ ap (λ (n : ℕ). n + 1) are.one_each;
        each = λ j lt. elim (cases_eq j k) [
          | inl same ↦
              subst (IsSeenAs events order j) (sym (get_or_push s x none j (are.one_each ∙ sym same)))
              (subst (λ (n : ℕ). IsSeenAs events order n x) (sym same) is)
          | inr ne ↦
              let size = are.one_each in
              subst (IsSeenAs events order j) (sym (get_or_append_left s (x ∷ []) none j (omega arith))) (are.each j (omega arith))
        ];
      }

  -- what an event sends isn't received by itself
  send_is_source : (k j m : ℕ) (s : Skeleton) → AreSeenAs events order k s → j < k → Sends events (place_at order j) m → IsSource s j
  send_is_source k j m s are lt sent =
      let size = are.one_each in
      (omega arith, receives_nothing (skeleton_at s j).send (are.each j lt).send)
    where
      receives_nothing : (o : Option ℕ) → NamesSendIn events order j o → o ≡ None
      receives_nothing None none = refl
      receives_nothing (Some i) (lt', (n, sends, receives)) = absurd (no_send_and_receive (event_in_order events order j).kind m n sent.kind receives.kind)

  -- the next event may follow those before it
  pub may_follow : (k nodes : ℕ) (s : Skeleton) (node reading : ℕ) (send : Option ℕ) → AreSeenAs events order k s → node < nodes
      → NamesSendIn events order k send → MayFollow nodes s (record { node = node; reading = reading; send = send })
  may_follow k nodes s node reading None are small named = record { node = small; send = _ }
  may_follow k nodes s node reading (Some j) are small (lt, (m, sends, receives)) =
      record { node = small; send = send_is_source k j m s are lt sends }

-- the place that a list of events names
pub place_here : (order : List EventId) (k : ℕ) → k < length order → place_at (places_of order) k ≡ (slice_index_or order k (record { 0 = 0 })).0
place_here order k lt = get_or-map (λ (id : EventId). id.0) order k (record { 0 = 0 }) 0 lt

pub length-with_send : (sends : List (Option EventId)) (kd : LogKind) (position : EventId) → length (with_send sends kd position) ≡ length sends
length-with_send sends kind.Local position = refl
length-with_send sends (kind.Receive m) position = refl
length-with_send sends kind.Restart position = refl
length-with_send sends kind.Outside position = refl
length-with_send sends (kind.Send m) position = length-set sends m.0 (Some position)

abbrev no_send : Option EventId
no_send = None

pub no_sends : (events : List LogEvent) (order : List ℕ) (n : ℕ) → AreSendsOf events order 0 (replicate n no_send)
no_sends events order n m lt =
    let size = length-replicate n no_send in
    subst (NamesSendOf events order 0 m) (sym (get_or-replicate n m no_send no_send (omega arith))) (λ j before sent. absurd (omega arith))

pub nothing_is_least : IsLeastFeasible [] []
nothing_is_least = (least_feasible_place_by_place [] []).1 (refl, λ f lt. absurd (omega arith))

-- an execution whose events are the same to clocks, with the same stamps, has the least stamps too
pub least_kept : (x y : StoredExecution) → clock_of y ≡ clock_of x → y.stamps ≡ x.stamps → HasLeastClockStamps x → HasLeastClockStamps y
least_kept x y clocks stamps least =
    subst (λ (ps : List Pair). IsLeastFeasible (clock_of y) ps) (sym stamps) (subst (λ (t : ClockEvents). IsLeastFeasible t x.stamps) (sym clocks) least)

pub in_range_at : (events : List LogEvent) → All IsInRange events → (e : ℕ) → e < length events → IsInRange (event_at events e)
in_range_at events ranges e exists = All-get_or IsInRange events e no_event exists ranges

-- the event that is named next in a causal order
module _ (events : List LogEvent) (order : List EventId) (messages k : ℕ) (lt : k < length order) (causal : IsCausalPrefix events (places_of order)) where
  abbrev next : ℕ
  next = (slice_index_or order k (record { 0 = 0 })).0

  pub next_within : k < length (places_of order)
  next_within =
      let size = length-map order (λ (id : EventId). id.0) in
      omega arith

  pub next_exists : next < length events
  next_exists = subst (λ (e : ℕ). e < length events) (place_here order k lt) (causal k next_within).exists

  pub next_few : k < length events
  next_few =
      let most = length-order-le events (places_of order) causal in
      let within = next_within in
      omega arith

  module _ (event : LogEvent) (is : event ≡ event_at events next) where
    pub next_told : event_in_order events (places_of order) k ≡ event
    next_told = ap (event_at events) (place_here order k lt) ∙ sym is

    pub next_numbered : All (IsNumbered messages) events → IsNumbered messages event
    next_numbered numbered = subst (IsNumbered messages) (sym is) (numbered_at messages events numbered next next_exists)

    pub next_in_range : All IsInRange events → IsInRange event
    next_in_range ranges = subst IsInRange (sym is) (in_range_at events ranges next next_exists)

    pub next_named : (sends : List (Option EventId)) → AreMessagesSound events → AreSendsOf events (places_of order) k sends
        → IsMessageBelow (length sends) event.kind → NamesSendIn events (places_of order) k (place_of (send_received sends event.kind))
    next_named sends sound are below =
        send_is_named events (places_of order) k next_within causal sound sends are event.kind (ap (λ (e : LogEvent). e.kind) next_told) below

    pub next_seen : (s : Skeleton) (send : Option ℕ) → AreSeenAs events (places_of order) k s → NamesSendIn events (places_of order) k send
        → AreSeenAs events (places_of order) (k + 1) (s ++ record { node = event.node.0; reading = event.reading; send = send } ∷ [])
    next_seen s send are named = seen_push events (places_of order) k s _ are (record {
      node = ap (λ (e : LogEvent). e.node.0) (sym next_told);
      reading = ap (λ (e : LogEvent). e.reading) (sym next_told);
      send = named;
    })

-- what an event receives in a causal order
module _ (events : List LogEvent) (order : List ℕ) (whole : IsCausalOrder events order) where
  sent_place : (k : ℕ) (kd : LogKind) → (event_in_order events order k).kind ≡ kd → (e : ℕ) → send_place events kd ≡ Some e → k < length order
      → SendsTo events e (place_at order k)
  sent_place k kind.Local is e found within = absurd (cc)
  sent_place k (kind.Send m) is e found within = absurd (cc)
  sent_place k kind.Restart is e found within = absurd (cc)
  sent_place k kind.Outside is e found within = absurd (cc)
  sent_place k (kind.Receive m) is e found within =
      let there = position-Some (λ (event : LogEvent). is_send m.0 event.kind) events e no_event found in
      (m.0, sends_if events e m.0 there.0 there.1, record { exists = (whole.causal k within).exists; kind = is })

  -- the send of what it receives stands earlier
  pub delivers_earlier : (j k : ℕ) → k < length order → (o : Option ℕ) → send_place events (event_in_order events order k).kind ≡ o
      → option_and_then (position_of order) o ≡ Some j → j < k
  delivers_earlier j k within None is found = absurd (cc)
  delivers_earlier j k within (Some e) is found =
      let place = place_of_position events order whole e j found in
      let sends = sent_place k (event_in_order events order k).kind refl e is within in
      needed_before events order whole j k place.0 within (inr (subst (λ (x : ℕ). SendsTo events x (place_at order k)) (sym place.1) sends))

-- what is seen of all events is the skeleton of the log in the order
module _ (events : List LogEvent) (order : List ℕ) (whole : IsCausalOrder events order) (once : EachIsSentOnce events) (s : Skeleton)
    (seen : AreSeenAs events order (length order) s) where
  none_sent : (k : ℕ) → k < length order → NamesSendIn events order k None → (o : Option ℕ)
      → send_place events (event_in_order events order k).kind ≡ o → option_and_then (position_of order) o ≡ None
  none_sent k within none None is = refl
  none_sent k within none (Some e) is = absurd (none e (sent_place events order whole k (event_in_order events order k).kind refl e is within))

  same_send : (k : ℕ) → k < length order → (o : Option ℕ) → NamesSendIn events order k o → o ≡ (skeleton_event_in events order (place_at order k)).send
  same_send k within None none = sym (none_sent k within none (send_place events (event_in_order events order k).kind) refl)
  same_send k within (Some j) (lt, sends) = sym (send_is events order whole once j k (omega arith) within sends)

  same_event : (x : SkeletonEvent) (k : ℕ) → k < length order → IsSeenAs events order k x → x ≡ skeleton_event_in events order (place_at order k)
  same_event x k within is =
      let send = same_send k within x.send is.send in
      let event = event_in_order events order k in
      let made = λ (node reading : ℕ) (send : Option ℕ). (let e : SkeletonEvent = record { node = node; reading = reading; send = send } in e) in
      ap (λ (n : ℕ). made n x.reading x.send) is.node
      ∙ ap (λ (r : ℕ). made event.node.0 r x.send) is.reading
      ∙ ap (made event.node.0 event.reading) send

  pub seen_is_skeleton : s ≡ skeleton_in events order
  seen_is_skeleton =
      let none : SkeletonEvent = record { node = 0; reading = 0; send = None } in
      let size = length-skeleton_in events order whole in
      ext_get_or none s (skeleton_in events order) (seen.one_each ∙ sym size) (λ k lt.
      let within : k < length order = (let n = seen.one_each in omega arith) in
      same_event (skeleton_at s k) k within (seen.each k within) ∙ sym (skeleton_in_at events order whole k within))

-- one position more is kept
pub positions_push : (order : List ℕ) (positions : List EventId) (k : ℕ) → EachDiffers order → k < length order → place_at order k < length positions
    → ((j : ℕ) → j < k → (slice_index_or positions (place_at order j) (record { 0 = 0 })).0 ≡ j)
    → (j : ℕ) → j < k + 1 → (slice_index_or (slice_set positions (place_at order k) (record { 0 = k })) (place_at order j) (record { 0 = 0 })).0 ≡ j
positions_push order positions k differ within exists before j lt =
    let none : EventId = record { 0 = 0 } in
    let here : EventId = record { 0 = k } in
    elim (cases_eq j k) [
      | inl same ↦
          ap (λ (x : ℕ). (slice_index_or (slice_set positions (place_at order k) here) (place_at order x) none).0) same
          ∙ ap (λ (id : EventId). id.0) (get_or-set_same positions (place_at order k) here none exists)
          ∙ sym same
      | inr ne ↦
          let earlier : j < k = omega arith in
          ap (λ (id : EventId). id.0) (get_or-set_other positions (place_at order k) (place_at order j) here none (differ j k earlier within))
          ∙ before j earlier
    ]

-- a causal order of all events has each of them once
module _ (events : List LogEvent) (order : List ℕ) (whole : IsCausalOrder events order) where
  abbrev indexes : List ℕ
  indexes = map (index_in order) (places_below (length events))

  index_at : (e d : ℕ) → e < length events → get_or indexes e d ≡ index_in order e
  index_at e d lt =
      let size = length-places_below (length events) in
      get_or-map (index_in order) (places_below (length events)) e 0 d (omega arith) ∙ ap (index_in order) (place_at_below (length events) e lt)

  indexes_differ : (e f : ℕ) → e < f → f < length events → index_in order e ≢ index_in order f
  indexes_differ e f lt within same =
      let first = (place_of_index events order whole e (omega arith)).1 in
      let second = (place_of_index events order whole f within).1 in
      let bad : e ≡ f = sym first ∙ ap (place_at order) same ∙ second in
      omega arith

  length-indexes : length indexes ≡ length events
  length-indexes = length-map (places_below (length events)) (index_in order) ∙ length-places_below (length events)

  indexes_small : (q : ℕ) → Contains indexes q → q < length order
  indexes_small q (e, lt, is) =
      let size = length-indexes in
      let within : e < length events = omega arith in
      subst (λ (x : ℕ). x < length order) (sym (index_at e q within) ∙ is) (place_of_index events order whole e within).0

  pub order_len : length order ≡ length events
  order_len =
      let at_most = length-order-le events order whole.causal in
      let size = length-indexes in
      let distinct = IsDistinct-from_apart eqb indexes (λ e f d lt within. ne_eqb (get_or indexes e d) (get_or indexes f d) (λ same.
      indexes_differ e f lt (omega arith) (sym (index_at e d (omega arith)) ∙ same ∙ index_at f d (omega arith)))) in
      let at_least = length-le_from_distinct_below indexes (length order) distinct (λ q found. indexes_small q (Contains-from_any eqb-true q indexes found)) in
      omega arith

-- what parts of a log in order say of one event
module _ (events : List LogEvent) (order : List EventId) (whole : IsCausalOrder events (places_of order)) where
  pub named_len : length order ≡ length events
  named_len = sym (length-map order (λ (id : EventId). id.0)) ∙ order_len events (places_of order) whole

  pub named_here : (k : ℕ) (other : EventId) → k < length events → place_at (places_of order) k ≡ (slice_index_or order k other).0
  named_here k other lt =
      let size = named_len in
      place_here order k (omega arith) ∙ ap (λ (id : EventId). id.0) (get_or_default order k (record { 0 = 0 }) other (omega arith))

  pub named_exists : (k : ℕ) (other : EventId) → k < length events → (slice_index_or order k other).0 < length events
  named_exists k other lt =
      let size = order_len events (places_of order) whole in
      subst (λ (e : ℕ). e < length events) (named_here k other lt) (whole.causal k (omega arith)).exists

  module _ (positions : List EventId) (are : ArePositions (places_of order) (length events) positions) (e : ℕ) (other : EventId) (exists : e < length events) where
    pub position_is : (slice_index_or positions e other).0 ≡ index_in (places_of order) e
    position_is =
        let at = place_of_index events (places_of order) whole e exists in
        let size = are.one_each in
        ap (λ (id : EventId). id.0) (get_or_default positions e other (record { 0 = 0 }) (omega arith))
        ∙ ap (λ (x : ℕ). (slice_index_or positions x (record { 0 = 0 })).0) (sym at.1)
        ∙ are.each (index_in (places_of order) e) at.0

    pub position_exists : (slice_index_or positions e other).0 < length events
    position_exists =
        let at = (place_of_index events (places_of order) whole e exists).0 in
        let size = order_len events (places_of order) whole in
        let is = position_is in
        omega arith

    pub position_place : place_at (places_of order) (slice_index_or positions e other).0 ≡ e
    position_place = ap (place_at (places_of order)) position_is ∙ (place_of_index events (places_of order) whole e exists).1

-- the claimed stamp at a position
pub claimed_at : (events : List LogEvent) (order : List ℕ) (k : ℕ) → k < length order
    → pair_at (claimed_in events order) k ≡ (event_in_order events order k).stamp
claimed_at events order k lt = get_or-map (λ (e : ℕ). (event_at events e).stamp) order k 0 zero_pair lt
