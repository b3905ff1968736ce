-- What the drift of an event comes to: that which it would have if it came next.
use Rattle.std.proofs.Common.{◌≡◌, ◌≢◌, ◌∙◌, ℕ, zero, suc, ◌<◌, ◌≤◌, ◌-◌, inl, inr, Bool, true, false, List, [], ◌∷◌, ◌++◌, length, arith, refl, subst, sym, ap, Option, Some, None}
use Rattle.std.specs.Prelude.{◌==◌, IfSome, cond, fold, max, option_map, unwrap_or}
use Rattle.std.proofs.lemmas.Bool.{cases_eq, eq-eqb, ne_eqb}
use Rattle.std.proofs.lemmas.Bool.Decides.{nat_tests}
use Rattle.std.proofs.lemmas.List.{length_push}
use Rattle.hlc_stamp.specs.declared.id.EventId.{EventId}
use Rattle.hlc_stamp.specs.Order.{IsBelow, Pair}
use Rattle.hlc_causality.specs.Assignment.{pair_at}
use Rattle.hlc_causality.specs.Causality.{IsDirectPredecessor, IsEarlierAtNode, IsPrevious, Skeleton, SkeletonEvent, skeleton_at}
use Rattle.hlc_arena.specs.ClockRule.{MeetsClockRule, drift_of}
use Rattle.hlc_arena.specs.History.{EventKind, StampedEvent, causality_of, event_at, delivered_send, skeleton_event_of, stamp_at, stamped_at, stamps_of}
use Rattle.hlc_causality.specs.Neighbours.{IsLastAt, NamesLast, NamesLastPair}
use Rattle.hlc_arena.proofs.Histories.{drift_at_place, length_skeleton, pair_at_place, skeleton_at_place, skeleton_push}
use Rattle.hlc_causality.proofs.LeastAbove.{least_above_source}
use Rattle.hlc_causality.proofs.NextEvents.{longer}
use Rattle.hlc_arena.proofs.Places.{stamped_at-before, stamped_at-last}
use Rattle.hlc_causality.proofs.Predecessors.{previous_or_first}
use Rattle.hlc_core.specs.Lawful.{IsLawfulNext}
use Rattle.hlc_core.specs.Limit.{AreWithinLimit, IsWithinLimit, drift_if_next, exceeds, last_l, message_l}
use Rattle.hlc_core.specs.State.{State}

abbrev pub l_after : ℕ → ℕ → StampedEvent → ℕ
l_after node l x = cond (x.event.node == node) x.stamp.l l

-- d is the last of a node's events
record IsLastOf (events : List StampedEvent) (node d : ℕ) : Type 0 where
  exists : d < length events
  at_node : (event_at events d).node ≡ node
  latest : (m : ℕ) → m < length events → (event_at events m).node ≡ node → m ≤ d

-- the l of a node's last event, or the starting l if there is none
last-none : (node l : ℕ) (events : List StampedEvent) → ((m : ℕ) → m < length events → (event_at events m).node ≢ node) →
    fold (l_after node) l events ≡ l
last-none node l [] none = refl
last-none node l (x ∷ events) none =
    let other : (x.event.node == node) ≡ false = ne_eqb x.event.node node (none 0 (omega arith)) in
    ap (λ (b : Bool). fold (l_after node) (cond b x.stamp.l l) events) other
    ∙ last-none node l events (λ m lt. none (suc m) (omega (arith, lt)))

last-is : (node l : ℕ) (events : List StampedEvent) (d : ℕ) → IsLastOf events node d → fold (l_after node) l events ≡ (stamp_at events d).l
last-is node l [] d last = absurd (omega (arith, last.exists))
last-is node l (x ∷ events) zero last =
    let here : (x.event.node == node) ≡ true = eq-eqb x.event.node node last.at_node in
    ap (λ (b : Bool). fold (l_after node) (cond b x.stamp.l l) events) here
    ∙ last-none node x.stamp.l events (λ m lt same. let late = last.latest (suc m) (omega (arith, lt)) same in omega (arith, late))
last-is node l (x ∷ events) (suc d) last =
    last-is node (l_after node l x) events d (record {
      exists = omega (arith, last.exists);
      at_node = last.at_node;
      latest = λ m lt same. let late = last.latest (suc m) (omega (arith, lt)) same in omega (arith, late);
    })

-- a node in the skeleton is that of the event
node_at : (events : List StampedEvent) (m : ℕ) → (skeleton_at (causality_of events) m).node ≡ (event_at events m).node
node_at events m = ap (λ (e : SkeletonEvent). e.node) (skeleton_at_place events m)

last_in_events : (events : List StampedEvent) (node d : ℕ) → IsLastAt (causality_of events) node d → IsLastOf events node d
last_in_events events node d last =
    let size = length_skeleton events in
    record {
      exists = omega (arith, size, last.exists);
      at_node = sym (node_at events d) ∙ last.at_node;
      latest = λ m lt same. last.latest m (omega (arith, size, lt)) (node_at events m ∙ same);
    }

-- the l of the pair that a node's last event has
pub last_l_is : (events : List StampedEvent) (node : ℕ) (last : Option EventId) (pair : Pair) →
    NamesLast (causality_of events) node last → NamesLastPair (stamps_of events) last pair → last_l events node ≡ pair.l
last_l_is events node None pair none is =
    let size = length_skeleton events in
    last-none node 0 events (λ m lt same. none m (omega (arith, size, lt)) (node_at events m ∙ same))
    ∙ ap (λ (p : Pair). p.l) (sym is)
last_l_is events node (Some d) pair last is =
    last-is node 0 events d.0 (last_in_events events node d.0 last) ∙ ap (λ (p : Pair). p.l) (sym (pair_at_place events d.0) ∙ sym is)

-- the l of an event that is named, or 0 if none is
abbrev pub l_of : List StampedEvent → Option ℕ → ℕ
l_of events named = unwrap_or (option_map (λ e. (stamp_at events e).l) named) 0

-- the l of the message of this send
pub message_l_is : (events : List StampedEvent) (kind : EventKind) (send : Option EventId)
    → delivered_send kind ≡ option_map (λ s. s.0) send →
    message_l events kind ≡ unwrap_or (option_map (λ (s : EventId). (stamp_at events s.0).l) send) 0
message_l_is events kind None is = ap (l_of events) is
message_l_is events kind (Some s) is = ap (l_of events) is

module _ (others : List StampedEvent) (x : StampedEvent) where
  abbrev more : Skeleton
  more = longer (causality_of others) (skeleton_event_of x.event)

  abbrev here : ℕ
  here = length others

  skeleton_before : (e : ℕ) → e < length others → skeleton_at more e ≡ skeleton_event_of (event_at others e)
  skeleton_before e lt =
      ap (λ (s : Skeleton). skeleton_at s e) (sym (skeleton_push others x)) ∙ skeleton_at_place (others ++ x ∷ []) e
      ∙ ap (λ (y : StampedEvent). skeleton_event_of y.event) (stamped_at-before others x e lt)

  skeleton_here : skeleton_at more here ≡ skeleton_event_of x.event
  skeleton_here =
      ap (λ (s : Skeleton). skeleton_at s here) (sym (skeleton_push others x)) ∙ skeleton_at_place (others ++ x ∷ []) here
      ∙ ap (λ (y : StampedEvent). skeleton_event_of y.event) (stamped_at-last others x)

  here_exists : here < length more
  here_exists =
      let size = length_push (causality_of others) (skeleton_event_of x.event) in
      let same = length_skeleton others in
      omega (arith, size, same)

  earlier_at_node : (e : ℕ) → e < length others → (event_at others e).node ≡ x.event.node → IsEarlierAtNode more e here
  earlier_at_node e lt same = record {
    earlier = lt;
    exists = here_exists;
    same_node = ap (λ (k : SkeletonEvent). k.node) (skeleton_before e lt) ∙ same ∙ ap (λ (k : SkeletonEvent). k.node) (sym skeleton_here);
  }

  previous_is_last : (d : ℕ) → IsPrevious more d here → IsLastOf others x.event.node d
  previous_is_last d previous =
      let node = λ (k : SkeletonEvent). k.node in
      record {
        exists = previous.at_node.earlier;
        at_node = ap node (sym (skeleton_before d previous.at_node.earlier)) ∙ previous.at_node.same_node ∙ ap node skeleton_here;
        latest = λ m lt same. previous.latest m (earlier_at_node m lt same);
      }

  -- the l that the event can't be below
  abbrev l_due : ℕ
  l_due = max (last_l others x.event.node) (message_l others x.event.kind)

  direct_is_due : (d : ℕ) → IsDirectPredecessor more d here → (stamp_at others d).l ≤ l_due
  direct_is_due d (inl previous) = let same = last-is x.event.node 0 others d (previous_is_last d previous) in omega (arith, same)
  direct_is_due d (inr send) =
      let delivers : delivered_send x.event.kind ≡ Some d = ap (λ (k : SkeletonEvent). k.send) (sym skeleton_here) ∙ send.delivers in
      let same : message_l others x.event.kind ≡ (stamp_at others d).l = ap (l_of others) delivers in
      omega (arith, same)

  module _ (clock : MeetsClockRule others x) where
    -- the least pair has the l of the reading, or that of a direct predecessor
    stamp_is_due : x.stamp.l ≤ max x.event.reading l_due
    stamp_is_due =
        let reads : (skeleton_at more here).reading ≡ x.event.reading = ap (λ (k : SkeletonEvent). k.reading) skeleton_here in
        elim (least_above_source more (stamps_of others) here x.stamp here_exists clock) [
          | inl reading ↦ let first = reading.0 in omega (arith, reads, first)
          | inr after ↦
              let due = direct_is_due after.0 after.1 in
              let one = after.2.0 in
              let at_place : (pair_at (stamps_of others) after.0).l ≡ (stamp_at others after.0).l =
              ap (λ (p : Pair). p.l) (pair_at_place others after.0) in
              omega (arith, due, one, at_place)
        ]

    direct_is_below : (d : ℕ) → IsDirectPredecessor more d here → (stamp_at others d).l ≤ x.stamp.l
    direct_is_below d direct =
        let below : IsBelow (stamp_at others d) x.stamp =
        subst (λ (p : Pair). IsBelow p x.stamp) (pair_at_place others d) (clock.allowed.above d direct) in
        elim below [ inl lt ↦ omega (arith, lt) | inr same ↦ let l_is = same.0 in omega (arith, l_is) ]

    last_is_below : last_l others x.event.node ≤ x.stamp.l
    last_is_below = elim (previous_or_first more here here_exists) [
      | inl found ↦
          let same = last-is x.event.node 0 others found.0 (previous_is_last found.0 found.1) in
          let below = direct_is_below found.0 (inl found.1) in
          omega (arith, same, below)
      | inr none ↦ let zero = last-none x.event.node 0 others (λ m lt same. none m (earlier_at_node m lt same)) in omega (arith, zero)
    ]

    message_is_below : (send : Option ℕ) → delivered_send x.event.kind ≡ send → IfSome send (λ sent. sent < length others) →
        l_of others send ≤ x.stamp.l
    message_is_below None is earlier = omega arith
    message_is_below (Some sent) is earlier =
        let delivers = ap (λ (k : SkeletonEvent). k.send) skeleton_here ∙ is in
        direct_is_below sent (inr (record { earlier = earlier; exists = here_exists; delivers = delivers }))

    -- the drift of an event that comes next is what was said it would be
    drift_comes_true : IfSome (delivered_send x.event.kind) (λ sent. sent < length others) →
        x.stamp.l - x.event.reading ≡ drift_if_next others x.event
    drift_comes_true earlier =
        let due = stamp_is_due in
        let last = last_is_below in
        let message = message_is_below (delivered_send x.event.kind) refl earlier in
        omega (arith, due, last, message)

pub drift_of_lawful : (nodes : ℕ) (others : List StampedEvent) (x : StampedEvent) → IsLawfulNext nodes others x.event →
    MeetsClockRule others x → x.stamp.l - x.event.reading ≡ drift_if_next others x.event
drift_of_lawful nodes others x lawful clock = drift_comes_true others x clock lawful.follows.names.earlier.delivered

-- tests of limits
pub within_if_not_exceeded : (limit : Option ℕ) (drift : ℕ) → exceeds limit drift ≡ false → IsWithinLimit limit drift
within_if_not_exceeded None drift not = tt
within_if_not_exceeded (Some limit) drift not = grind (arith, nat_tests, not)

pub not_exceeded_if_within : (limit : Option ℕ) (drift : ℕ) → IsWithinLimit limit drift → exceeds limit drift ≡ false
not_exceeded_if_within None drift within = refl
not_exceeded_if_within (Some limit) drift within = grind (arith, nat_tests, within)

-- the drift of an event that has this stamp
pub drift_at : (events : List StampedEvent) (e : ℕ) (x : StampedEvent) → stamped_at events e ≡ x →
    drift_of events e ≡ x.stamp.l - x.event.reading
drift_at events e x is = drift_at_place events e ∙ ap (λ (y : StampedEvent). y.stamp.l - y.event.reading) is

-- drifts stay within the limit with one more that is
pub within-push : (limit : Option ℕ) (events : List StampedEvent) (x : StampedEvent) → AreWithinLimit limit events →
    IsWithinLimit limit (x.stamp.l - x.event.reading) → AreWithinLimit limit (events ++ x ∷ [])
within-push limit events x within new e lt = elim (cases_eq e (length events)) [
  | inl last ↦
      let here : stamped_at (events ++ x ∷ []) e ≡ x = ap (stamped_at (events ++ x ∷ [])) last ∙ stamped_at-last events x in
      subst (IsWithinLimit limit) (sym (drift_at (events ++ x ∷ []) e x here)) new
  | inr other ↦
      let size = length_push events x in
      let before : e < length events = omega (arith, lt, size) in
      let stays : drift_of (events ++ x ∷ []) e ≡ drift_of events e =
      drift_at (events ++ x ∷ []) e (stamped_at events e) (stamped_at-before events x e before) ∙ sym (drift_at_place events e) in
      subst (IsWithinLimit limit) (sym stays) (within e before)
]

-- what an event that may come next is ahead of its reading is within the limit
pub drift_is_within : (s : State) (x : StampedEvent) → IsLawfulNext s.history.nodes s.history.events x.event →
    MeetsClockRule s.history.events x → IsWithinLimit s.limit (drift_if_next s.history.events x.event) →
    IsWithinLimit s.limit (x.stamp.l - x.event.reading)
drift_is_within s x lawful clock near =
    subst (IsWithinLimit s.limit) (sym (drift_of_lawful s.history.nodes s.history.events x lawful clock)) near
