-- The log of a history in a causal order: its stamps are the least ones.
use Rattle.std.proofs.Common.{◌≡◌, ◌∙◌, Bool, false, true, ℕ, ◌<◌, ◌≤◌, inl, inr, List, Option, Some, None, arith, length, refl, sym, ap, subst, take}
use Rattle.std.specs.Prelude.{All, Contains}
use Rattle.std.proofs.lemmas.List.{ext_get_or, get_or_default, length-map}
use Rattle.hlc_stamp.specs.declared.limits.TheConstants.{MAX_CAPACITY}
use Rattle.hlc_log.specs.declared.log_event.TheConstants.{MAX_LOG_NODES}
use Rattle.hlc_stamp.specs.Order.{Pair, zero_pair}
use Rattle.hlc_causality.specs.declared.receives.Receives.TheVariants.{Tick}
use Rattle.hlc_causality.specs.declared.receives.Receives.{Receives}
use Rattle.hlc_causality.specs.Assignment.{IsLeast}
use Rattle.hlc_causality.specs.Causality.{Skeleton, SkeletonEvent, skeleton_at}
use Rattle.hlc_causality.specs.ClockEvents.{ClockEvents, clock_skeleton}
use Rattle.hlc_causality.specs.Feasible.{IsLeastFeasible}
use Rattle.hlc_causality.specs.Places.{places_below}
use Rattle.hlc_causality.specs.Predecessors.{send_of}
use Rattle.hlc_causality.specs.ReceiveEvents.{clock_events, plain_rules}
use Rattle.hlc_causality.proofs.LeastList.{least_list_exists}
use Rattle.hlc_causality.proofs.ReceiveEvents.{same_clock_events}
use Rattle.hlc_causality.proofs.TickingReceives.{least_by_readings}
use Rattle.hlc_causality.proofs.PlacesBelow.{length-places_below, place_at as place_below_at}
use Rattle.hlc_arena.specs.ClockRule.{HasLeastStamps}
use Rattle.hlc_arena.specs.History.{StampedEvent, causality_of, event_at as history_event_at, stamps_of}
use Rattle.hlc_arena.proofs.Histories.{length_skeleton, pair_at_place, skeleton_at_place}
use Rattle.hlc_causes.specs.Causes.{NamesCauses, no_causes}
use Rattle.hlc_causes.specs.Seen.{wrong_among}
use Rattle.hlc_log.specs.declared.log_event.LogEvent.{LogEvent}
use Rattle.hlc_log.specs.CausalOrder.{IsCausalOrder, IsEarlierOf, MayComeNext, Needs, place_at}
use Rattle.hlc_log.specs.Events.{IsInRange, IsSmallCarried, event_at, no_event, own_rule, rule_by}
use Rattle.hlc_log.specs.declared.log_event.LogKind.{LogKind}
use Rattle.hlc_log.specs.declared.log_event.LogKind.TheVariants as kind
use Rattle.hlc_log.specs.Messages.{SendsTo}
use Rattle.hlc_log.specs.OrderSkeleton.{index_in, rules_in, skeleton_in}
use Rattle.hlc_log.specs.Reordering.{IsReordering, KeepsEvents}
use Rattle.hlc_log.proofs.CausalOrders.{contained_before, place_of_contained}
use Rattle.hlc_log.proofs.OrderSkeletons.{earlier_from_order, earlier_in_order, index_of_place, length-skeleton_in, own_in, place_exists, place_of_index, reading_in, send_from_order, send_in_order}
use Rattle.hlc_log.proofs.Reorderings.{reordering_keeps_least}
use Rattle.hlc_ordered_log.specs.InOrder.{AreOfNodes, IsCarriedRightly, IsGivenStamps, IsInOrder, LogInOrder, carried_of, claimed_in, claimed_of, clocks_of, seen_of, skeleton_of, stamp_told}
use Rattle.hlc_ordered_log.proofs.CleanLogs.{claims_are_least, none_is_named, seen_is_claimed}
use Rattle.hlc_ordered_log.proofs.EventsInOrder.{length-clocks_of}
use Rattle.hlc_ordered_log.proofs.Ordering.{claimed_at}
use Rattle.hlc_history_log.specs.Laws.{HasNoCause, HasReading}
use Rattle.hlc_history_log.proofs.HistoryLogs.{IsHistoryLog}

module _ (events : List StampedEvent) (log : List LogEvent) (is : IsHistoryLog events log) where
  -- the history's own order is causal
  needs_earlier : (f e : ℕ) → Needs log f e → e < f
  needs_earlier f e (inl at_node) = (is.to_earlier e f at_node).earlier
  needs_earlier f e (inr sends) = (is.to_send e f sends).earlier

  abbrev own_order : List ℕ
  own_order = places_below (length log)

  may_come_next : (k : ℕ) → k < length own_order → MayComeNext log (take k own_order) (place_at own_order k)
  may_come_next k lt =
      let size = length-places_below (length log) in
      let here : place_at own_order k ≡ k = place_below_at (length log) k (omega arith) in
      record {
        exists = omega (arith, here);
        new = λ inside.
            let at = place_of_contained log own_order k (place_at own_order k) (omega arith) inside in
            let there = place_below_at (length log) at.0 (omega (arith, at.1)) in
            omega (arith, at.1, at.2, here, there);
        needed = λ e needs.
            let before = needs_earlier (place_at own_order k) e needs in
            let there = place_below_at (length log) e (omega (arith, before, here)) in
            subst (Contains (take k own_order)) there (contained_before log own_order e k (omega (arith, before, here)) (omega arith));
      }

  pub own_order_is_causal : IsCausalOrder log own_order
  own_order_is_causal = record {
    causal = may_come_next;
    all = λ e lt.
        let size = length-places_below (length log) in
        let within : e < length own_order = omega arith in
        (e, within, get_or_default own_order e e 0 within ∙ place_below_at (length log) e lt);
  }

  -- in each causal order its clocks have no rules but those of receives
  pub clocks_are_plain : (receives : Receives) (order : List ℕ) → IsCausalOrder log order
      → clock_events (rules_in receives log order) (skeleton_in log order) ≡ clock_events (plain_rules receives) (skeleton_in log order)
  clocks_are_plain receives order whole =
      same_clock_events (rules_in receives log order) (plain_rules receives) (skeleton_in log order) refl (λ i lt.
      let within : i < length order = omega (arith, lt, length-skeleton_in log order whole) in
      let there = place_exists log order whole i within in
      own_in log order whole receives i within ∙ is.no_rule receives (place_at order i) (let size = is.size in omega arith))

  -- in each causal order the log is a reordering of the history
  module _ (order : List ℕ) (whole : IsCausalOrder log order) where
    abbrev seen : Skeleton
    seen = skeleton_in log order

    abbrev caused : Skeleton
    caused = causality_of events

    seen_size : length seen ≡ length order
    seen_size = length-skeleton_in log order whole

    caused_size : length caused ≡ length events
    caused_size = length_skeleton events

    place_there : (i : ℕ) → i < length order → place_at order i < length events
    place_there i lt = let there = place_exists log order whole i lt in let size = is.size in omega arith

    reading_there : (e : ℕ) → (skeleton_at caused e).reading ≡ (history_event_at events e).reading
    reading_there e = ap (λ (x : SkeletonEvent). x.reading) (skeleton_at_place events e)

    index_there : (e : ℕ) → e < length events → (index_in order e < length order) × (place_at order (index_in order e) ≡ e)
    index_there e lt = place_of_index log order whole e (let size = is.size in omega arith)

    kept_there : KeepsEvents seen caused (place_at order)
    kept_there = record {
      exists = λ i lt. let a = place_there i (omega (arith, seen_size)) in omega (arith, caused_size, a);
      reading = λ i lt.
          let within : i < length order = omega (arith, seen_size) in
          reading_there (place_at order i) ∙ sym (is.reading (place_at order i) (place_there i within)) ∙ sym (reading_in log order whole i within);
      at_node = λ i j h. is.to_earlier (place_at order i) (place_at order j) (earlier_in_order log order whole i j h).2;
      send = λ i j h. is.to_send (place_at order i) (place_at order j) (send_in_order log order whole i j h).2;
    }

    kept_here : KeepsEvents caused seen (index_in order)
    kept_here = record {
      exists = λ e lt. let a = index_there e (omega (arith, caused_size)) in omega (arith, seen_size, a.0);
      reading = λ e lt.
          let within : e < length events = omega (arith, caused_size) in
          let at = index_there e within in
          reading_in log order whole (index_in order e) at.0 ∙ ap (λ (x : ℕ). (event_at log x).reading) at.1 ∙ is.reading e within
          ∙ sym (reading_there e);
      at_node = λ d e h.
          let there = h.exists in
          let before = h.earlier in
          let first = index_there d (omega (arith, caused_size)) in
          let second = index_there e (omega (arith, caused_size)) in
          earlier_from_order log order whole (index_in order d) (index_in order e) first.0 second.0
          (subst (λ (x : ℕ). IsEarlierOf log x (place_at order (index_in order e))) (sym first.1)
          (subst (IsEarlierOf log d) (sym second.1) (is.from_earlier d e h)));
      send = λ d e h.
          let there = h.exists in
          let before = h.earlier in
          let first = index_there d (omega (arith, caused_size)) in
          let second = index_there e (omega (arith, caused_size)) in
          send_from_order log order whole is.sound.once (index_in order d) (index_in order e) first.0 second.0
          (subst (λ (x : ℕ). SendsTo log x (place_at order (index_in order e))) (sym first.1)
          (subst (SendsTo log d) (sym second.1) (is.from_send d e h)));
    }

    reordered : IsReordering seen caused (place_at order) (index_in order)
    reordered = record {
      there = kept_there;
      here = kept_here;
      back_here = λ i lt. index_of_place log order whole i (omega (arith, seen_size));
      back_there = λ e lt. (index_there e (omega (arith, caused_size))).1;
    }

    pub claims_least : (least : List Pair) → HasLeastStamps events → IsLeast seen least → claimed_in log order ≡ least
    claims_least least stamps is_least =
        let claims : length (claimed_in log order) ≡ length order = length-map order (λ (e : ℕ). (event_at log e).stamp) in
        ext_get_or zero_pair (claimed_in log order) least (claims ∙ sym seen_size ∙ sym is_least.allowed.one_each) (λ i lt.
        let within : i < length order = omega (arith, claims) in
        claimed_at log order i within ∙ is.stamp (place_at order i) (place_there i within) ∙ sym (pair_at_place events (place_at order i))
        ∙ sym (reordering_keeps_least seen caused (place_at order) (index_in order) reordered least (stamps_of events) is_least stamps i
        (omega (arith, seen_size))))

-- no event that has no rule of its own is a restart
no_restart : (event : LogEvent) → own_rule Tick event ≡ None → event.kind ≡ kind.Restart → ⊥
no_restart event none is =
    let same = sym none ∙ ap (λ (k : LogKind). rule_by Tick event k) is in
    cc same

-- its readings are in range, and so is what it has of its own: no floor, and nothing carried
pub log_in_range : (events : List StampedEvent) (log : List LogEvent) → IsHistoryLog events log → ((e : ℕ) → e < length events → HasReading events e) → All IsInRange log
log_in_range events log is readings e other exists =
    let lt : e < length events = (let size = is.size in omega arith) in
    let reading = readings e lt in
    let same = is.reading e lt in
    let range : IsInRange (event_at log e) = record {
      positive = let low = reading.positive in omega arith;
      in_range = let high = reading.in_range in omega arith;
      floor = λ restart. absurd (no_restart (event_at log e) (is.no_rule Tick e lt) restart);
      carried = subst IsSmallCarried (sym (is.carried e lt)) tt;
      told = λ restart. is.has_stamp e lt;
    } in
    subst IsInRange (get_or_default log e no_event other exists) range

-- it tells each stamp
pub stamps_told : (events : List StampedEvent) (log : LogInOrder) → IsHistoryLog events log.events → IsCausalOrder log.events log.order
    → (k : ℕ) → k < length log.order → stamp_told log k ≡ true
stamps_told events log is causal k lt =
    let there = place_exists log.events log.order causal k lt in
    is.has_stamp (place_at log.order k) (let size = is.size in omega arith)

-- so none is given
none_given : (events : List StampedEvent) (log : LogInOrder) → IsHistoryLog events log.events → IsCausalOrder log.events log.order → IsGivenStamps log
none_given events log is causal k lt untold =
    absurd (let bad : ◌≡◌ {A = Bool} true false = sym (stamps_told events log is causal k lt) ∙ untold in cc bad)

-- in its own order
pub log_in_own_order : (events : List StampedEvent) (log : List LogEvent) (nodes : ℕ) → nodes ≤ MAX_LOG_NODES → AreOfNodes nodes log → IsHistoryLog events log
    → length events ≤ MAX_CAPACITY → ((e : ℕ) → e < length events → HasReading events e)
    → (in_order : LogInOrder) × (in_order.receives ≡ Tick) × (in_order.events ≡ log) × IsInOrder in_order
log_in_own_order events log nodes few_nodes of_nodes is few readings =
    let order = places_below (length log) in
    let causal = own_order_is_causal events log is in
    let least = least_list_exists (skeleton_in log order) in
    let whole : LogInOrder = record { nodes = nodes; receives = Tick; events = log; order = order; least = least.0 } in (
      whole,
      refl,
      refl,
      record {
        few = let size = is.size in omega arith;
        few_nodes = few_nodes;
        of_nodes = of_nodes;
        in_range = log_in_range events log is readings;
        messages = is.sound;
        causal = causal;
        least = subst (λ (t : ClockEvents). IsLeastFeasible t least.0) (sym (clocks_are_plain events log is Tick order causal))
            ((least_by_readings (plain_rules Tick) (skeleton_in log order) refl least.0).0 least.1);
        given = none_given events whole is causal;
      },
    )

-- what isn't told to be carried isn't wrong
untold_is_right : (claimed : List Pair) (send : Option ℕ) (carried : Option Pair) → carried ≡ None → wrong_among claimed send carried ≡ None
untold_is_right claimed None None untold = refl
untold_is_right claimed (Some d) None untold = refl
untold_is_right claimed send (Some p) untold = absurd (cc untold)

pub carried_rightly : (events : List StampedEvent) (log : LogInOrder) → IsHistoryLog events log.events → IsInOrder log → IsCarriedRightly log
carried_rightly events log is in_order k lt =
    let there = place_exists log.events log.order in_order.causal k lt in
    untold_is_right (claimed_of log) (send_of (clock_skeleton (clocks_of log)) k) (carried_of log k)
    (is.carried (place_at log.order k) (let size = is.size in omega arith))

-- if the claimed stamps are the least ones, and no message carried another, none is a cause
pub no_cause : (log : LogInOrder) → IsInOrder log → claimed_of log ≡ log.least → IsCarriedRightly log
    → ((k : ℕ) → k < length log.order → stamp_told log k ≡ true) → HasNoCause log
no_cause log in_order same right told full k lt cause =
    let size : length (skeleton_of log) ≡ length log.order = length-skeleton_in log.events log.order in_order.causal in
    let exists : k < length (clocks_of log) = omega (arith, lt, size, length-clocks_of log) in
    let names : NamesCauses (clocks_of log) (seen_of log k) full k no_causes =
    subst (λ (pairs : List Pair). NamesCauses (clocks_of log) pairs full k no_causes) (sym (seen_is_claimed log in_order right k exists))
    (none_is_named (clocks_of log) (claimed_of log) (claims_are_least log in_order same) full k exists) in
    (λ has. (told k lt, (names cause).0 has), λ broken. (names cause).1 broken.1)

pub in_order_is_clean : (events : List StampedEvent) (log : LogInOrder) → IsHistoryLog events log.events → HasLeastStamps events → log.receives ≡ Tick → IsInOrder log
    → (claimed_of log ≡ log.least) × IsCarriedRightly log × HasNoCause log
in_order_is_clean events log is stamps ticks in_order =
    let plain = clocks_are_plain events log.events is log.receives log.order in_order.causal in
    let least = (least_by_readings (plain_rules log.receives) (skeleton_of log) (ap plain_rules ticks) log.least).1
    (subst (λ (t : ClockEvents). IsLeastFeasible t log.least) plain in_order.least) in
    let same = claims_least events log.events is log.order in_order.causal log.least stamps least in
    let right = carried_rightly events log is in_order in
    (same, right, no_cause log in_order same right (stamps_told events log is in_order.causal))
