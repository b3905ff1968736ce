-- The skeleton of a log in a causal order: what is earlier at a node, and what a delivery delivers.
use Rattle.std.proofs.Common.{◌≡◌, ℕ, ◌<◌, inl, inr, Bool, true, false, cond, List, length, get_or, Option, Some, None, arith, refl, subst, sym, ap, ◌∙◌}
use Rattle.std.specs.Prelude.{◌==◌, nat_lt, option_and_then, position}
use Rattle.std.specs.List.{position_or_len}
use Rattle.std.proofs.lemmas.Bool.{cases_lt, cases_order, eq-eqb, eqb-true, lt-ltb, ne_eqb}
use Rattle.std.proofs.lemmas.List.{get_or-map, length-map}
use Rattle.std.proofs.lemmas.List.Quantifiers.{position-Some}
use Rattle.std.proofs.lemmas.List.Sums.{fails_before_first, position_or_len_is}
use Rattle.hlc_causality.specs.declared.receives.Receives.{Receives}
use Rattle.hlc_causality.specs.Causality.{IsEarlierAtNode, IsSendOf, SkeletonEvent, skeleton_at}
use Rattle.hlc_causality.specs.ReceiveEvents.{own_at}
use Rattle.hlc_causality.proofs.SamePrefix.{sent_within}
use Rattle.hlc_log.specs.declared.log_event.LogEvent.{LogEvent}
use Rattle.hlc_log.specs.declared.log_event.LogKind.{LogKind}
use Rattle.hlc_log.specs.declared.log_event.LogKind.TheVariants.{Local, Outside, Receive, Restart, Send}
use Rattle.hlc_log.specs.CausalOrder.{IsCausalOrder, IsEarlierOf, Needs, place_at}
use Rattle.hlc_log.specs.Events.{event_at, no_event, own_rule}
use Rattle.hlc_log.specs.Messages.{EachIsSentOnce, Sends, SendsTo}
use Rattle.hlc_log.specs.OrderSkeleton.{index_in, position_of, rules_in, send_place, skeleton_event_in, skeleton_in}
use Rattle.hlc_log.specs.Reordering.{SendsAreNamed}
use Rattle.hlc_log.specs.Unsent.{is_send}
use Rattle.hlc_log.proofs.StandingEvents.{stands_either_way}
use Rattle.hlc_log.proofs.CausalOrders.{place_in_order, place_of_contained, places_differ}

-- the position that a test finds
module _ {X : Type 0} (p : X → Bool) (xs : List X) (d : X) where
  position_by : (i n : ℕ) → i < n → cond (nat_lt i n) (Some i) None ≡ Some i
  position_by i n lt = ap (λ (b : Bool). cond b (Some i) None) (lt-ltb i n lt)

  pub position_is : (i : ℕ) → i < length xs → p (get_or xs i d) ≡ true → ((k : ℕ) → k < i → p (get_or xs k d) ≡ false) → position p xs ≡ Some i
  position_is i lt passes fails =
      let is : position_or_len p xs ≡ i = position_or_len_is p xs i d (omega arith) fails (λ _. passes) in
      ap (λ (k : ℕ). cond (nat_lt k (length xs)) (Some k) None) is ∙ position_by i (length xs) lt

  pub position_exists : (i : ℕ) → i < length xs → p (get_or xs i d) ≡ true → (k : ℕ) × (position p xs ≡ Some k)
  position_exists i lt passes = elim (cases_lt (position_or_len p xs) (length xs)) [
    | inl within ↦ (position_or_len p xs, position_by (position_or_len p xs) (length xs) within)
    | inr past ↦
        let fails = fails_before_first p xs i d (omega arith) in
        let bad : true ≡ false = sym passes ∙ fails in
        absurd (cc)
  ]

and_then_Some : (f : ℕ → Option ℕ) (o : Option ℕ) (i : ℕ) → option_and_then f o ≡ Some i → (x : ℕ) × (o ≡ Some x) × (f x ≡ Some i)
and_then_Some f None i is = absurd (cc)
and_then_Some f (Some x) i is = (x, refl, is)

send_if : (m : ℕ) (kind : LogKind) → is_send m kind ≡ true → kind ≡ Send (record { 0 = m })
send_if m Local is = absurd (cc)
send_if m (Receive k) is = absurd (cc)
send_if m Restart is = absurd (cc)
send_if m Outside is = absurd (cc)
send_if m (Send k) is = ap (λ (n : ℕ). Send (record { 0 = n })) (eqb-true k.0 m is)

pub is_send-Send : (m : ℕ) (kind : LogKind) → kind ≡ Send (record { 0 = m }) → is_send m kind ≡ true
is_send-Send m kind is = ap (is_send m) is ∙ eq-eqb m m refl

module _ (events : List LogEvent) where
  pub sends_if : (e m : ℕ) → e < length events → is_send m (event_at events e).kind ≡ true → Sends events e m
  sends_if e m lt is = record { exists = lt; kind = send_if m (event_at events e).kind is }

  pub one_send : EachIsSentOnce events → (d e m : ℕ) → Sends events d m → Sends events e m → d ≡ e
  one_send once d e m first second = elim (cases_order d e) [
    | inl same ↦ same
    | inr differ ↦ elim differ [
      | inl lt ↦ absurd (once e (d, m, record { earlier = lt; first = first; second = second }))
      | inr gt ↦ absurd (once d (e, m, record { earlier = gt; first = second; second = first }))
    ]
  ]

  received_from : (kind : LogKind) (x : ℕ) → send_place events kind ≡ Some x → (m : ℕ) × (kind ≡ Receive (record { 0 = m })) × Sends events x m
  received_from Local x is = absurd (cc)
  received_from (Send k) x is = absurd (cc)
  received_from Restart x is = absurd (cc)
  received_from Outside x is = absurd (cc)
  received_from (Receive k) x is =
      let found = position-Some (λ (event : LogEvent). is_send k.0 event.kind) events x no_event is in
      (k.0, refl, sends_if x k.0 found.0 found.1)

  module _ (order : List ℕ) (whole : IsCausalOrder events order) where
    pub same_position : (i j : ℕ) → i < length order → j < length order → place_at order i ≡ place_at order j → i ≡ j
    same_position i j i_lt j_lt same = elim (cases_order i j) [
      | inl is ↦ is
      | inr differ ↦ elim differ [
        | inl lt ↦ absurd (places_differ events order whole.causal i j lt j_lt same)
        | inr gt ↦ absurd (places_differ events order whole.causal j i gt i_lt (sym same))
      ]
    ]

    pub place_exists : (i : ℕ) → i < length order → place_at order i < length events
    place_exists i lt = (whole.causal i lt).exists

    -- what an event needs stands before it
    pub needed_before : (i j : ℕ) → i < length order → j < length order → Needs events (place_at order j) (place_at order i) → i < j
    needed_before i j i_lt j_lt needs =
        let at = place_of_contained events order j (place_at order i) (omega arith) ((whole.causal j j_lt).needed (place_at order i) needs) in
        let same : at.0 ≡ i = same_position at.0 i (omega (arith, at.1)) i_lt at.2 in
        omega (arith, at.1)

    pub earlier_of : (i j : ℕ) → i < j → j < length order
        → (event_at events (place_at order i)).node.0 ≡ (event_at events (place_at order j)).node.0
        → IsEarlierOf events (place_at order i) (place_at order j)
    earlier_of i j lt within same_node =
        let e = place_at order i in
        let f = place_at order j in
        let e_exists = place_exists i (omega arith) in
        let f_exists = place_exists j within in
        elim (stands_either_way events e f (places_differ events order whole.causal i j lt within)) [
          | inl earlier ↦ record { before = earlier; first_exists = e_exists; exists = f_exists; same_node = same_node }
          | inr later ↦
              let other : IsEarlierOf events f e = record { before = later; first_exists = f_exists; exists = e_exists; same_node = sym same_node } in
              let before = needed_before j i within (omega arith) (inl other) in
              absurd (omega arith)
        ]

    pub position_of_place : (i : ℕ) → i < length order → position_of order (place_at order i) ≡ Some i
    position_of_place i lt =
        position_is (λ (place : ℕ). place == place_at order i) order 0 i lt (eq-eqb (place_at order i) (place_at order i) refl)
        (λ k before. ne_eqb (place_at order k) (place_at order i) (places_differ events order whole.causal k i before lt))

    pub place_of_position : (e i : ℕ) → position_of order e ≡ Some i → (i < length order) × (place_at order i ≡ e)
    place_of_position e i is =
        let found = position-Some (λ (place : ℕ). place == e) order i 0 is in
        (found.0, eqb-true (place_at order i) e found.1)

    -- the skeleton
    pub length-skeleton_in : length (skeleton_in events order) ≡ length order
    length-skeleton_in = length-map order (skeleton_event_in events order)

    pub skeleton_in_at : (i : ℕ) → i < length order → skeleton_at (skeleton_in events order) i ≡ skeleton_event_in events order (place_at order i)
    skeleton_in_at i lt = get_or-map (skeleton_event_in events order) order i 0 (record { node = 0; reading = 0; send = None }) lt

    node_in : (i : ℕ) → i < length order → (skeleton_at (skeleton_in events order) i).node ≡ (event_at events (place_at order i)).node.0
    node_in i lt = ap (λ (e : SkeletonEvent). e.node) (skeleton_in_at i lt)

    pub reading_in : (i : ℕ) → i < length order → (skeleton_at (skeleton_in events order) i).reading ≡ (event_at events (place_at order i)).reading
    reading_in i lt = ap (λ (e : SkeletonEvent). e.reading) (skeleton_in_at i lt)

    -- the rule that an event has of its own
    pub own_in : (receives : Receives) (i : ℕ) → i < length order → own_at (rules_in receives events order) i ≡ own_rule receives (event_at events (place_at order i))
    own_in receives i lt = get_or-map (λ e. own_rule receives (event_at events e)) order i 0 None lt

    -- an event of the skeleton and an earlier one have places in the order
    both_exist : (i j : ℕ) → i < j → j < length (skeleton_in events order) → (i < length order) × (j < length order)
    both_exist i j lt exists = let size = length-skeleton_in in (omega arith, omega arith)

    pub earlier_in_order : (i j : ℕ) → IsEarlierAtNode (skeleton_in events order) i j
        → (i < length order) × (j < length order) × IsEarlierOf events (place_at order i) (place_at order j)
    earlier_in_order i j h =
        let (i_lt, j_lt) = both_exist i j h.earlier h.exists in
        (i_lt, j_lt, earlier_of i j h.earlier j_lt (sym (node_in i i_lt) ∙ h.same_node ∙ node_in j j_lt))

    pub earlier_from_order : (i j : ℕ) → i < length order → j < length order → IsEarlierOf events (place_at order i) (place_at order j)
        → IsEarlierAtNode (skeleton_in events order) i j
    earlier_from_order i j i_lt j_lt earlier = record {
      earlier = needed_before i j i_lt j_lt (inl earlier);
      exists = let size = length-skeleton_in in omega arith;
      same_node = node_in i i_lt ∙ earlier.same_node ∙ sym (node_in j j_lt);
    }

    pub send_in_order : (i j : ℕ) → IsSendOf (skeleton_in events order) i j
        → (i < length order) × (j < length order) × SendsTo events (place_at order i) (place_at order j)
    send_in_order i j h =
        let (i_lt, j_lt) = both_exist i j h.earlier h.exists in
        let delivers = sym (ap (λ (e : SkeletonEvent). e.send) (skeleton_in_at j j_lt)) ∙ h.delivers in
        let found = and_then_Some (position_of order) (send_place events (event_at events (place_at order j)).kind) i delivers in
        let from = received_from (event_at events (place_at order j)).kind found.0 found.1 in
        let place = place_of_position found.0 i found.2 in
        (i_lt, j_lt, (from.0, subst (λ (e : ℕ). Sends events e from.0) (sym place.1) from.2, record { exists = place_exists j j_lt; kind = from.1 }))

    -- what an event of the skeleton names as its send is its send
    pub sends_are_named : SendsAreNamed (skeleton_in events order)
    sends_are_named d f is =
        let f_lt : f < length order = omega (arith, sent_within (skeleton_in events order) f d is, length-skeleton_in) in
        let delivers = sym (ap (λ (e : SkeletonEvent). e.send) (skeleton_in_at f f_lt)) ∙ is in
        let found = and_then_Some (position_of order) (send_place events (event_at events (place_at order f)).kind) d delivers in
        let from = received_from (event_at events (place_at order f)).kind found.0 found.1 in
        let place = place_of_position found.0 d found.2 in
        let sends : SendsTo events (place_at order d) (place_at order f) =
        (from.0, subst (λ (e : ℕ). Sends events e from.0) (sym place.1) from.2, record { exists = place_exists f f_lt; kind = from.1 }) in
        record { earlier = needed_before d f place.0 f_lt (inr sends); exists = omega (arith, f_lt, length-skeleton_in); delivers = is }

    module _ (once : EachIsSentOnce events) where
      -- what an event receives in the order is what the skeleton says
      pub send_is : (i j : ℕ) → i < length order → j < length order → SendsTo events (place_at order i) (place_at order j)
          → (skeleton_event_in events order (place_at order j)).send ≡ Some i
      send_is i j i_lt j_lt (m, sends, receives) =
          let test = λ (event : LogEvent). is_send m event.kind in
          let e = place_at order i in
          let there = position_exists test events no_event e sends.exists (is_send-Send m (event_at events e).kind sends.kind) in
          let found = position-Some test events there.0 no_event there.1 in
          let same : there.0 ≡ e = one_send once there.0 e m (sends_if there.0 m found.0 found.1) sends in
          ap (λ (kind : LogKind). option_and_then (position_of order) (send_place events kind)) receives.kind
          ∙ ap (option_and_then (position_of order)) (there.1 ∙ ap (λ (x : ℕ). Some x) same)
          ∙ position_of_place i i_lt

      pub send_from_order : (i j : ℕ) → i < length order → j < length order → SendsTo events (place_at order i) (place_at order j)
          → IsSendOf (skeleton_in events order) i j
      send_from_order i j i_lt j_lt sends = record {
        earlier = needed_before i j i_lt j_lt (inr sends);
        exists = let size = length-skeleton_in in omega arith;
        delivers = ap (λ (e : SkeletonEvent). e.send) (skeleton_in_at j j_lt) ∙ send_is i j i_lt j_lt sends;
      }

    -- where an event stands
    pub index_of_place : (i : ℕ) → i < length order → index_in order (place_at order i) ≡ i
    index_of_place i lt =
        position_or_len_is (λ (place : ℕ). place == place_at order i) order i 0 (omega arith)
        (λ k before. ne_eqb (place_at order k) (place_at order i) (places_differ events order whole.causal k i before lt))
        (λ _. eq-eqb (place_at order i) (place_at order i) refl)

    pub place_of_index : (e : ℕ) → e < length events → (index_in order e < length order) × (place_at order (index_in order e) ≡ e)
    place_of_index e exists =
        let at = place_in_order events order e (whole.all e exists) in
        let index : index_in order e ≡ at.0 = ap (index_in order) (sym at.2) ∙ index_of_place at.0 at.1 in
        (omega (arith, at.1), ap (place_at order) index ∙ at.2)
