-- The least pairs of an execution without a floor, event by event.
use Rattle.std.proofs.Common.{◌≡◌, ◌≢◌, ◌∙◌, Bool, true, false, cond, ℕ, ◌+◌, ◌-◌, ◌<◌, ◌≤◌, inl, inr, List, [], ◌∷◌, ◌++◌, length, Option, Some, None, add-one, arith, refl, subst, sym, ap}
use Rattle.std.specs.Prelude.{Contains, IfSome, filter, is_some}
use Rattle.std.proofs.lemmas.Bool.{cases_Bool, cases_eq}
use Rattle.std.proofs.lemmas.List.{append-nil, get_or_append_left, get_or_push, length_push, map_push}
use Rattle.std.proofs.lemmas.List.Sums.{count_by-le-length}
use Rattle.hlc_stamp.specs.Ids.{places_of}
use Rattle.hlc_stamp.specs.declared.id.EventId.{EventId}
use Rattle.hlc_stamp.specs.Order.{IsBelow, Pair, zero_pair}
use Rattle.hlc_causality.specs.declared.event_rule.EventRule.{EventRule}
use Rattle.hlc_causality.specs.declared.event_rule.TheConstants.{MAX_FLOOR_C}
use Rattle.hlc_causality.specs.declared.receives.Receives.{Receives}
use Rattle.hlc_causality.specs.declared.receives.Receives.TheVariants.{Merge, MergeClock, Tick}
use Rattle.hlc_causality.specs.Assignment.{pair_at}
use Rattle.hlc_causality.specs.Causality.{SkeletonEvent, skeleton_at}
use Rattle.hlc_causality.specs.ClockChain.{IsClockChain}
use Rattle.hlc_causality.specs.ClockEvents.{ClockEvent, ClockEvents, clock_event_at, clock_skeleton}
use Rattle.hlc_causality.specs.Feasible.{IsLeastFeasible}
use Rattle.hlc_causality.specs.LeastFeasible.{greater_next, next_pair}
use Rattle.hlc_causality.specs.Neighbours.{NamesPrevious, NamesSend, place_of}
use Rattle.hlc_causality.specs.Past.{IsInPast}
use Rattle.hlc_causality.specs.Places.{places_below}
use Rattle.hlc_causality.specs.Predecessors.{previous_of}
use Rattle.hlc_causality.specs.ReceiveEvents.{event_by, own_at}
use Rattle.hlc_causality.proofs.ClockChains.{clock_chain_of_exists, clock_chain_of_is_chain}
use Rattle.hlc_causality.proofs.LeastFeasible.{least_feasible_is_computed}
use Rattle.hlc_causality.proofs.Past.{walks_find_the_past}
use Rattle.hlc_causality.proofs.PlacesBelow.{filter-places_more, no_place_passes}
use Rattle.hlc_causality.proofs.ReceiveEvents.{clock_events_at, clock_events_size, floor_by_rule, leads_as_in, rule_floor, same_links}
use Rattle.hlc_causality.proofs.SameLinks.{IsSameLinks}
use Rattle.hlc_execution.specs.Execution.{HasLeastClockStamps, IsExecution, StoredExecution, clock_of}
use Rattle.hlc_execution.specs.Rules.{HasSmallFloor}
use Rattle.hlc_explain.specs.Taints.{ArePairsWithout, is_raised, least_without, tainted_by, without_floor}
use Rattle.hlc_explain.proofs.NamedLinks.{previous_named, same_previous, same_send, send_named}
use Rattle.hlc_explain.proofs.ShortestPaths.{leads_rise}
use Rattle.hlc_explain.proofs.Raising.{floor_there, least_is_made, links_without, not_raised, raised_tells, same_elsewhere, size_without, stays_before, tainted_are_influenced, ticks_kept}

-- c of a least pair is at most the event's place above the greatest c of a floor: so many events at most are on its chain
c_is_at_most :
    (t : ClockEvents) (pairs : List Pair) (most f : ℕ) → ((e : ℕ) → e < length t → (clock_event_at t e).floor.c ≤ most) → IsLeastFeasible t pairs →
    f < length t → (pair_at pairs f).c ≤ most + f
c_is_at_most t pairs most f small least exists =
    let chain = clock_chain_of_exists t pairs f exists in by_chain chain.0 (clock_chain_of_is_chain t pairs f chain.0 least chain.1)
  where
    by_chain : (chain : List ℕ) → IsClockChain t (pair_at pairs f) f chain → (pair_at pairs f).c ≤ most + f
    by_chain [] h = absurd h
    by_chain (e ∷ rest) h =
        let floor = small e h.exists in
        let few = count_by-le-length (λ e. (clock_event_at t e).ticks) rest in
        let rise = leads_rise (clock_skeleton t) e rest f h.linked in
        omega (arith, h.counts, floor, few, rise)

-- a floor that is no rule's own has c 0
rule_floor_is_whole : (received : Bool) (receives : Receives) (reading : ℕ) → (rule_floor received receives reading).c ≡ 0
rule_floor_is_whole false receives reading = refl
rule_floor_is_whole true Tick reading = refl
rule_floor_is_whole true Merge reading = refl
rule_floor_is_whole true MergeClock reading = refl

ruled_floor_is_small : (receives : Receives) (rule : Option EventRule) (x : SkeletonEvent) → IfSome rule HasSmallFloor
    → (event_by receives rule x).floor.c ≤ MAX_FLOOR_C
ruled_floor_is_small receives (Some rule) x small = small
ruled_floor_is_small receives None x small =
    let none = ap (λ (p : Pair). p.c) (floor_by_rule x receives) ∙ rule_floor_is_whole (is_some x.send) receives x.reading in
    omega (arith, none)

module _ (x : StoredExecution) (sound : IsExecution x) (e : ℕ) (here : e < length x.events) where
  abbrev t : ClockEvents
  t = clock_of x

  abbrev u : ClockEvents
  u = without_floor t e

  abbrev pairs : List Pair
  pairs = least_without t e

  size : length t ≡ length x.events
  size = clock_events_size x.rules x.events

  there : e < length t
  there = omega (arith, here, size)

  small_without : (f : ℕ) → f < length u → (clock_event_at u f).floor.c ≤ MAX_FLOOR_C
  small_without f lt = elim (cases_eq f e) [
    | inl is ↦
        let none : (clock_event_at u f).floor.c ≡ 0 =
        ap (λ (n : ℕ). (clock_event_at u n).floor.c) is ∙ ap (λ (p : Pair). p.c) (floor_there t e there) in
        omega (arith, none)
    | inr ne ↦
        let exists : f < length x.events = omega (arith, lt, size_without t e there, size) in
        let same : (clock_event_at u f).floor.c ≡ (event_by x.rules.receives (own_at x.rules f) (skeleton_at x.events f)).floor.c =
        ap (λ (y : ClockEvent). y.floor.c) (same_elsewhere t e there f ne ∙ clock_events_at x.rules x.events f exists) in
        let small = ruled_floor_is_small x.rules.receives (own_at x.rules f) (skeleton_at x.events f) (sound.small_floors f) in
        omega (arith, same, small)
  ]

  -- so what comes directly after a pair fits
  pub c_fits : (d : ℕ) → d < length x.events → (pair_at pairs d).c ≤ MAX_FLOOR_C + d
  c_fits d exists =
      c_is_at_most u pairs MAX_FLOOR_C d small_without (least_feasible_is_computed u) (omega (arith, exists, size, size_without t e there))

  -- the rule of an event without the floor
  pub floor_here : (f : ℕ) (floor : Pair) → f ≡ e → floor ≡ zero_pair → floor ≡ (clock_event_at u f).floor
  floor_here f floor is none = none ∙ sym (floor_there t e there) ∙ ap (λ (n : ℕ). (clock_event_at u n).floor) (sym is)

  pub floor_elsewhere : (f : ℕ) → f ≢ e → (clock_event_at t f).floor ≡ (clock_event_at u f).floor
  floor_elsewhere f ne = ap (λ (y : ClockEvent). y.floor) (sym (same_elsewhere t e there f ne))

  pub ticks_everywhere : (f : ℕ) → (clock_event_at t f).ticks ≡ (clock_event_at u f).ticks
  ticks_everywhere f = ticks_kept t e there f

  links_kept : IsSameLinks x.events (clock_skeleton u)
  links_kept =
      let first = same_links x.rules x.events in
      let then = links_without t e there in
      record {
        size = first.size ∙ then.size;
        node = λ f. first.node f ∙ then.node f;
        send = λ f. first.send f ∙ then.send f;
      }

  -- the greatest of the floor and of what may come after the direct predecessors is the least
  pub next_is : (f : ℕ) (previous send : Option EventId) (floor after p : Pair) (ticks : Bool) → f < length x.events →
      NamesPrevious x.events f previous → NamesSend x.events f send →
      floor ≡ (clock_event_at u f).floor → ticks ≡ (clock_event_at u f).ticks →
      after ≡ greater_next ticks pairs floor (place_of previous) → p ≡ greater_next ticks pairs after (place_of send) →
      p ≡ pair_at pairs f
  next_is f previous send floor after p ticks exists is_previous is_send is_floor is_ticks of_previous of_send =
      let most = λ (b : Bool) (low : Pair) (c d : Option ℕ). greater_next b pairs (greater_next b pairs low c) d in
      of_send
      ∙ ap (λ (q : Pair). greater_next ticks pairs q (place_of send)) of_previous
      ∙ ap (λ (b : Bool). most b floor (place_of previous) (place_of send)) is_ticks
      ∙ ap (λ (low : Pair). most (clock_event_at u f).ticks low (place_of previous) (place_of send)) is_floor
      ∙ ap (λ (c : Option ℕ). most (clock_event_at u f).ticks (clock_event_at u f).floor c (place_of send))
      (previous_named x.events f exists previous is_previous ∙ same_previous x.events f exists (clock_skeleton u) links_kept)
      ∙ ap (λ (d : Option ℕ). most (clock_event_at u f).ticks (clock_event_at u f).floor (previous_of (clock_skeleton u) f) d)
      (send_named x.events f exists send is_send ∙ same_send x.events f exists (clock_skeleton u) links_kept)
      ∙ sym (least_is_made u f (omega (arith, exists, size, size_without t e there)))

  -- before the event nothing is raised
  pub none_listed : HasLeastClockStamps x → (list : List EventId) → list ≡ [] → places_of list ≡ filter (is_raised t x.stamps e) (places_below e)
  none_listed least list none =
      ap (λ (ids : List EventId). places_of ids) none
      ∙ sym (no_place_passes (is_raised t x.stamps e) e (λ k lt. not_raised t x.stamps e k (stays_before t e there x.stamps least k lt)))

  -- and then each event for which the test holds is listed
  pub listed_on : (list more : List EventId) (place : ℕ) (p q : Pair) → p ≡ pair_at pairs place → q ≡ pair_at x.stamps place → IsBelow p q →
      places_of list ≡ filter (is_raised t x.stamps e) (places_below place) → more ≡ list ++ record { 0 = place } ∷ [] →
      places_of more ≡ filter (is_raised t x.stamps e) (places_below (place + 1))
  listed_on list more place p q is_p is_q below listed pushed =
      let passes : is_raised t x.stamps e place ≡ true =
      (raised_tells t x.stamps e place).1 (subst (λ (r : Pair). IsBelow (pair_at pairs place) r) is_q (subst (λ (r : Pair). IsBelow r q) is_p below)) in
      ap (λ (ids : List EventId). places_of ids) pushed
      ∙ map_push (λ (id : EventId). id.0) list (record { 0 = place })
      ∙ ap (λ (xs : List ℕ). xs ++ place ∷ []) listed
      ∙ ap (λ (b : Bool). filter (is_raised t x.stamps e) (places_below place) ++ cond b (place ∷ []) []) (sym passes)
      ∙ sym (filter-places_more (is_raised t x.stamps e) place)
      ∙ ap (λ (n : ℕ). filter (is_raised t x.stamps e) (places_below n)) (sym (add-one place))

  pub listed_over : (list : List EventId) (place : ℕ) (p q : Pair) → p ≡ pair_at pairs place → q ≡ pair_at x.stamps place → ¬ IsBelow p q →
      places_of list ≡ filter (is_raised t x.stamps e) (places_below place) →
      places_of list ≡ filter (is_raised t x.stamps e) (places_below (place + 1))
  listed_over list place p q is_p is_q other listed =
      let fails : is_raised t x.stamps e place ≡ false = elim (cases_Bool (is_raised t x.stamps e place)) [
        | inr test ↦ test
        | inl test ↦
            let below = (raised_tells t x.stamps e place).0 test in
            absurd (other (subst (λ (r : Pair). IsBelow r q) (sym is_p) (subst (λ (r : Pair). IsBelow (pair_at pairs place) r) (sym is_q) below)))
      ] in
      listed
      ∙ sym (append-nil (filter (is_raised t x.stamps e) (places_below place)))
      ∙ ap (λ (b : Bool). filter (is_raised t x.stamps e) (places_below place) ++ cond b (place ∷ []) []) (sym fails)
      ∙ sym (filter-places_more (is_raised t x.stamps e) place)
      ∙ ap (λ (n : ℕ). filter (is_raised t x.stamps e) (places_below n)) (sym (add-one place))

  -- each is the event or one that it happened before
  pub tainted_past : HasLeastClockStamps x → (f : ℕ) → Contains (tainted_by t x.stamps e) f → IsInPast x.events e f
  tainted_past least f among =
      let walk = (walks_find_the_past (clock_skeleton t) e f).0 (tainted_are_influenced t x.stamps e f there least among) in
      (walks_find_the_past x.events e f).1 (walk.0, (leads_as_in x.rules x.events e walk.0 f).1 walk.1)

-- what comes directly after such a pair fits
pub next_fits : (ticks : Bool) (p : Pair) → p.c + 1 < 4294967296 → (next_pair ticks p).c < 4294967296
next_fits true p fits = fits
next_fits false p fits = omega arith

-- what comes earlier keeps its stamp
pub stamp_before : (x : StoredExecution) (e d : ℕ) → e < length x.events → HasLeastClockStamps x → d < e
    → pair_at x.stamps d ≡ pair_at (least_without (clock_of x) e) d
stamp_before x e d here least lt =
    let there : e < length (clock_of x) = omega (arith, here, clock_events_size x.rules x.events) in
    sym (stays_before (clock_of x) e there x.stamps least d lt)

-- at first no pair is kept, and then one more
pub nothing_kept : (t : ClockEvents) (e : ℕ) (kept : List Pair) → kept ≡ [] → ArePairsWithout t e kept
nothing_kept t e [] none = λ k lt. absurd (omega arith)
nothing_kept t e (p ∷ kept) none = absurd cc

pub one_more_kept : (t : ClockEvents) (e place : ℕ) (kept more : List Pair) (p : Pair) → ArePairsWithout t e kept → e + length kept ≡ place →
    p ≡ pair_at (least_without t e) place → more ≡ kept ++ p ∷ [] → ArePairsWithout t e more
one_more_kept t e place kept more p known next is pushed = subst (ArePairsWithout t e) (sym pushed) (λ k lt.
    let size = length_push kept p in
    elim (cases_eq k (length kept)) [
      | inl last ↦
          let here : place ≡ e + k = omega arith in
          get_or_push kept p zero_pair k (sym last) ∙ is ∙ ap (λ (n : ℕ). pair_at (least_without t e) n) here
      | inr ne ↦ get_or_append_left kept (p ∷ []) zero_pair k (omega arith) ∙ known k (omega arith)
    ])
