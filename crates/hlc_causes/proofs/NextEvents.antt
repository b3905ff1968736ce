-- The least pair of an event that comes next, whatever the rules of clocks.
use Rattle.std.proofs.Common.{◌≡◌, ◌∙◌, Bool, true, false, ℕ, zero, suc, ◌+◌, ◌<◌, ◌≤◌, inl, inr, List, [], ◌∷◌, ◌++◌, length}
use Rattle.std.proofs.Common.{Option, Some, None, arith, refl, subst, sym, ap}
use Rattle.std.specs.Prelude.{IfSome}
use Rattle.std.proofs.lemmas.List.{get_or_append_left, get_or_push, length_push}
use Rattle.hlc_stamp.specs.declared.id.EventId.{EventId}
use Rattle.hlc_stamp.specs.Order.{Pair}
use Rattle.hlc_causality.specs.declared.event_rule.EventRule.{EventRule}
use Rattle.hlc_causality.specs.declared.event_rule.TheConstants.{MAX_FLOOR_C}
use Rattle.hlc_causality.specs.Assignment.{pair_at}
use Rattle.hlc_causality.specs.Causality.{IsEarlierAtNode, Skeleton, SkeletonEvent, skeleton_at}
use Rattle.hlc_causality.specs.ClockEvents.{ClockEvent, ClockEvents, clock_event_at, clock_skeleton}
use Rattle.hlc_causality.specs.Feasible.{EachIsLeastFeasible, IsLeastFeasible, IsLeastFeasibleAt}
use Rattle.hlc_causality.specs.LeastFeasible.{greater_next, least_feasible_at, next_pair}
use Rattle.hlc_causality.specs.Neighbours.{NamesLast, NamesPrevious, NamesSend, place_of}
use Rattle.hlc_causality.specs.Predecessors.{previous_of}
use Rattle.hlc_causality.specs.ReceiveEvents.{ClockRules, clock_events, event_by, own_at}
use Rattle.hlc_causality.proofs.Feasible.{least_feasible_at_is, least_feasible_source}
use Rattle.hlc_causality.proofs.LeastFeasible.{each_from_least_feasible, one_more_stays_least_feasible}
use Rattle.hlc_causality.proofs.NextEvents.{last_is_previous}
use Rattle.hlc_causality.proofs.Predecessors.{direct_earlier}
use Rattle.hlc_causality.proofs.ReceiveEvents.{clock_events_at, clock_events_push, clock_events_size}
use Rattle.hlc_causality.proofs.SamePrefix.{no_event}
use Rattle.hlc_execution.specs.Rules.{HasSmallFloor, HaveSmallFloors}
use Rattle.hlc_causes.proofs.LinksFound.{floor_is_whole, previous_received, send_of_received}
use Rattle.hlc_causes.proofs.Predecessors.{previous_named, send_named}

c_of_next : (ticks : Bool) (p : Pair) → (next_pair ticks p).c ≤ p.c + 1
c_of_next true p = omega arith
c_of_next false p = omega arith

-- c of a least pair is at most the event's place above the greatest c of a floor
counter_below : (t : ClockEvents) (pairs : List Pair) → ((e : ℕ) → e < length t → (clock_event_at t e).floor.c ≤ MAX_FLOOR_C) →
    EachIsLeastFeasible t pairs → (n f : ℕ) → f < n → f < length t → (pair_at pairs f).c ≤ MAX_FLOOR_C + f
counter_below t pairs small each zero f lt exists = absurd (omega (arith, lt))
counter_below t pairs small each (suc n) f lt exists =
    elim (least_feasible_source t pairs f (pair_at pairs f) exists (each f exists)) [
      | inl own ↦
          let c : (pair_at pairs f).c ≡ (clock_event_at t f).floor.c = ap (λ (p : Pair). p.c) own in
          omega (arith, c, small f exists)
      | inr from ↦
          let ticks = (clock_event_at t f).ticks in
          let earlier = direct_earlier (clock_skeleton t) from.0 f from.1 in
          let before = counter_below t pairs small each n from.0 (omega arith) (omega arith) in
          let c : (next_pair ticks (pair_at pairs from.0)).c ≡ (pair_at pairs f).c = ap (λ (p : Pair). p.c) from.2 in
          omega (arith, c, c_of_next ticks (pair_at pairs from.0), before, earlier)
    ]

-- the floor of each event is small
small_by : (rules : ClockRules) (x : SkeletonEvent) (rule : Option EventRule) → IfSome rule HasSmallFloor
    → (event_by rules.receives rule x).floor.c ≤ MAX_FLOOR_C
small_by rules x None h = omega (arith, floor_is_whole rules.receives x)
small_by rules x (Some rule) h = h

floor_is_small : (rules : ClockRules) (s : Skeleton) → HaveSmallFloors rules → (e : ℕ) → e < length (clock_events rules s)
    → (clock_event_at (clock_events rules s) e).floor.c ≤ MAX_FLOOR_C
floor_is_small rules s small e lt =
    let exists : e < length s = omega (arith, lt, clock_events_size rules s) in
    rw (clock_events_at rules s e exists) (small_by rules (skeleton_at s e) (own_at rules e) (small e))

module _ (rules : ClockRules) (s : Skeleton) (pairs : List Pair) (least : IsLeastFeasible (clock_events rules s) pairs) where
  pub counter_is_small : HaveSmallFloors rules → (f : ℕ) → f < length s → (pair_at pairs f).c ≤ MAX_FLOOR_C + f
  counter_is_small small f exists =
      let t = clock_events rules s in
      counter_below t pairs (floor_is_small rules s small) (each_from_least_feasible t pairs least) (suc f) f (omega arith)
      (omega (arith, exists, clock_events_size rules s))

  -- one more event, with the least pair: what was least stays least
  pub one_more_stays_least : (x : SkeletonEvent) (p : Pair) → IsLeastFeasibleAt (clock_events rules (s ++ x ∷ [])) pairs (length s) p →
      IsLeastFeasible (clock_events rules (s ++ x ∷ [])) (pairs ++ p ∷ [])
  one_more_stays_least x p new =
      let t = clock_events rules s in
      let y = event_by rules.receives (own_at rules (length s)) x in
      let pushed = clock_events_push rules s x in
      let last : IsLeastFeasibleAt (t ++ y ∷ []) pairs (length s) p = subst (λ (u : ClockEvents). IsLeastFeasibleAt u pairs (length s) p) pushed new in
      let there = subst (λ (n : ℕ). IsLeastFeasibleAt (t ++ y ∷ []) pairs n p) (sym (clock_events_size rules s)) last in
      subst (λ (u : ClockEvents). IsLeastFeasible u (pairs ++ p ∷ [])) (sym pushed) (one_more_stays_least_feasible t pairs y p least there)

module _ (rules : ClockRules) (s : Skeleton) (x : SkeletonEvent) where
  abbrev longer : Skeleton
  longer = s ++ x ∷ []

  abbrev t : ClockEvents
  t = clock_events rules longer

  abbrev pub next_event : ClockEvent
  next_event = event_by rules.receives (own_at rules (length s)) x

  exists : length s < length longer
  exists = let size = length_push s x in omega arith

  last : skeleton_at longer (length s) ≡ x
  last = get_or_push s x no_event (length s) refl

  here : clock_event_at t (length s) ≡ next_event
  here = clock_events_at rules longer (length s) exists ∙ ap (event_by rules.receives (own_at rules (length s))) last

  -- what is earlier at the node of the new event is at that node
  at_its_node : (m : ℕ) → IsEarlierAtNode longer m (length s) → (skeleton_at s m).node ≡ x.node
  at_its_node m h =
      ap (λ (e : SkeletonEvent). e.node) (sym (get_or_append_left s (x ∷ []) no_event m h.earlier))
      ∙ h.same_node ∙ ap (λ (e : SkeletonEvent). e.node) last

  names_previous : (link : Option EventId) → NamesLast s x.node link → NamesPrevious longer (length s) link
  names_previous None none = λ d h. none d h.earlier (at_its_node d h)
  names_previous (Some d) found = last_is_previous s x d.0 found

  names_send : (link : Option EventId) → x.send ≡ place_of link → IfSome link (λ d. d.0 < length s) → NamesSend longer (length s) link
  names_send None alone _ = λ d h.
      let bad : ◌≡◌ {A = Option ℕ} None (Some d) = sym alone ∙ ap (λ (e : SkeletonEvent). e.send) (sym last) ∙ h.delivers in absurd cc
  names_send (Some sent) delivers lt = record { earlier = lt; exists = exists; delivers = ap (λ (e : SkeletonEvent). e.send) last ∙ delivers }

  -- the greatest of the floor and of the next pairs of the node's last event and of the send is the least
  pub least_raised : (pairs : List Pair) (floor p : Pair) (ticks : Bool) (previous send : Option EventId) → floor ≡ next_event.floor →
      ticks ≡ next_event.ticks → NamesLast s x.node previous → x.send ≡ place_of send → IfSome send (λ d. d.0 < length s) →
      p ≡ greater_next ticks pairs (greater_next ticks pairs floor (place_of previous)) (place_of send) → IsLeastFeasibleAt t pairs (length s) p
  least_raised pairs floor p ticks previous send is_floor is_ticks names delivers sent is =
      let n = length s in
      let there : n < length t = omega (arith, exists, clock_events_size rules longer) in
      let of_previous = previous_named longer n previous exists (names_previous previous names) ∙ previous_received rules longer n in
      let of_send = send_named longer n send exists (names_send send delivers sent) ∙ send_of_received rules longer n in
      let most = λ (b : Bool) (low : Pair) (d e : Option ℕ). greater_next b pairs (greater_next b pairs low d) e in
      let same : p ≡ least_feasible_at t pairs n =
      is
      ∙ ap (λ (b : Bool). most b floor (place_of previous) (place_of send)) (is_ticks ∙ sym (ap (λ (y : ClockEvent). y.ticks) here))
      ∙ ap (λ (low : Pair). most (clock_event_at t n).ticks low (place_of previous) (place_of send)) (is_floor ∙ sym (ap (λ (y : ClockEvent). y.floor) here))
      ∙ ap (λ (d : Option ℕ). most (clock_event_at t n).ticks (clock_event_at t n).floor d (place_of send)) of_previous
      ∙ ap (λ (e : Option ℕ). most (clock_event_at t n).ticks (clock_event_at t n).floor (previous_of (clock_skeleton t) n) e) of_send in
      subst (λ (q : Pair). IsLeastFeasibleAt t pairs n q) (sym same) (least_feasible_at_is t pairs n there)
