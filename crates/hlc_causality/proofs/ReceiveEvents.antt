-- The rules of clocks leave the links among events as they are.
use Rattle.std.proofs.Common.{◌≡◌, ◌↔◌, ◌∙◌, ℕ, zero, suc, ◌<◌, List, Bool, true, false, [], ◌∷◌, ◌++◌, Option, Some, None, arith, refl, sym, ap}
use Rattle.std.specs.Prelude.{if◌then◌else◌, is_some, length, slice_index_or}
use Rattle.std.proofs.lemmas.List.{ext_get_or}
use Rattle.hlc_causality.specs.declared.event_rule.EventRule.{EventRule}
use Rattle.hlc_stamp.specs.Order.{Pair, zero_pair}
use Rattle.hlc_causality.specs.declared.receives.Receives.{Receives}
use Rattle.hlc_causality.specs.declared.receives.Receives.TheVariants.{Merge, MergeClock, Tick}
use Rattle.hlc_causality.specs.Causality.{Skeleton, SkeletonEvent, skeleton_at}
use Rattle.hlc_causality.specs.ClockEvents.{ClockEvent, ClockEvents, clock_event_at, clock_skeleton, ticking_event}
use Rattle.hlc_causality.specs.Past.{LeadsTo}
use Rattle.hlc_causality.specs.ReceiveEvents.{ClockRules, RulesKeepPrevious, RulesKeepSends, TickingReceivesTick, clock_event, clock_events, event_by, own_at, plain_rules, receive_event, ruled_events}
use Rattle.hlc_causality.proofs.ClockEvents.{clock_skeleton_at, skeleton_size}
use Rattle.hlc_causality.proofs.SameLinks.{IsSameLinks, leads_kept, previous_kept, same_links_back, send_kept}

-- the floor of an event by whether it is a receive and by its reading, and whether it ticks
abbrev pub rule_floor : Bool → Receives → ℕ → Pair
rule_floor false receives reading = record { l = reading; c = 0 }
rule_floor true Tick reading = record { l = reading; c = 0 }
rule_floor true Merge reading = zero_pair
rule_floor true MergeClock reading = record { l = reading; c = 0 }

abbrev pub rule_ticks : Bool → Receives → Bool
rule_ticks false receives = true
rule_ticks true Tick = true
rule_ticks true Merge = false
rule_ticks true MergeClock = false

module _ (x : SkeletonEvent) where
  node_received : (receives : Receives) → (receive_event receives x).node ≡ x.node
  node_received Tick = refl
  node_received Merge = refl
  node_received MergeClock = refl

  send_received : (receives : Receives) → (receive_event receives x).send ≡ x.send
  send_received Tick = refl
  send_received Merge = refl
  send_received MergeClock = refl

  pub node_kept : (receives : Receives) → (clock_event receives x).node ≡ x.node
  node_kept receives = by_test (is_some x.send)
    where
      by_test : (test : Bool) → (if test then receive_event receives x else ticking_event x).node ≡ x.node
      by_test true = node_received receives
      by_test false = refl

  pub send_kept_at : (receives : Receives) → (clock_event receives x).send ≡ x.send
  send_kept_at receives = by_test (is_some x.send)
    where
      by_test : (test : Bool) → (if test then receive_event receives x else ticking_event x).send ≡ x.send
      by_test true = send_received receives
      by_test false = refl

  -- its floor and whether it ticks depend on its reading and on whether it receives something
  pub floor_by_rule : (receives : Receives) → (clock_event receives x).floor ≡ rule_floor (is_some x.send) receives x.reading
  floor_by_rule receives = by_test receives (is_some x.send)
    where
      by_test : (receives : Receives) (test : Bool)
          → (if test then receive_event receives x else ticking_event x).floor ≡ rule_floor test receives x.reading
      by_test receives false = refl
      by_test Tick true = refl
      by_test Merge true = refl
      by_test MergeClock true = refl

  pub ticks_by_rule : (receives : Receives) → (clock_event receives x).ticks ≡ rule_ticks (is_some x.send) receives
  ticks_by_rule receives = by_test receives (is_some x.send)
    where
      by_test : (receives : Receives) (test : Bool) → (if test then receive_event receives x else ticking_event x).ticks ≡ rule_ticks test receives
      by_test receives false = refl
      by_test Tick true = refl
      by_test Merge true = refl
      by_test MergeClock true = refl

  ticking_received : clock_event Tick x ≡ ticking_event x
  ticking_received = by_test (is_some x.send)
    where
      by_test : (test : Bool) → (if test then receive_event Tick x else ticking_event x) ≡ ticking_event x
      by_test true = refl
      by_test false = refl

-- a rule changes neither the node nor the send
node_by : (receives : Receives) (rule : Option EventRule) (x : SkeletonEvent) → (event_by receives rule x).node ≡ x.node
node_by receives None x = node_kept x receives
node_by receives (Some rule) x = refl

send_by : (receives : Receives) (rule : Option EventRule) (x : SkeletonEvent) → (event_by receives rule x).send ≡ x.send
send_by receives None x = send_kept_at x receives
send_by receives (Some rule) x = refl

module _ (receives : Receives) where
  ruled_size : (own : List (Option EventRule)) (s : Skeleton) → length (ruled_events receives own s) ≡ length s
  ruled_size own [] = refl
  ruled_size [] (x ∷ s) = ap suc (ruled_size [] s)
  ruled_size (rule ∷ own) (x ∷ s) = ap suc (ruled_size own s)

  ruled_at : (own : List (Option EventRule)) (s : Skeleton) (e : ℕ) → e < length s
      → clock_event_at (ruled_events receives own s) e ≡ event_by receives (slice_index_or own e None) (skeleton_at s e)
  ruled_at own [] e lt = absurd (omega (arith, lt))
  ruled_at [] (x ∷ s) zero lt = refl
  ruled_at [] (x ∷ s) (suc e) lt = ruled_at [] s e (omega (arith, lt))
  ruled_at (rule ∷ own) (x ∷ s) zero lt = refl
  ruled_at (rule ∷ own) (x ∷ s) (suc e) lt = ruled_at own s e (omega (arith, lt))

  ruled_node : (own : List (Option EventRule)) (s : Skeleton) (e : ℕ) → (clock_event_at (ruled_events receives own s) e).node ≡ (skeleton_at s e).node
  ruled_node own [] e = refl
  ruled_node [] (x ∷ s) zero = node_kept x receives
  ruled_node [] (x ∷ s) (suc e) = ruled_node [] s e
  ruled_node (rule ∷ own) (x ∷ s) zero = node_by receives rule x
  ruled_node (rule ∷ own) (x ∷ s) (suc e) = ruled_node own s e

  ruled_send : (own : List (Option EventRule)) (s : Skeleton) (e : ℕ) → (clock_event_at (ruled_events receives own s) e).send ≡ (skeleton_at s e).send
  ruled_send own [] e = refl
  ruled_send [] (x ∷ s) zero = send_kept_at x receives
  ruled_send [] (x ∷ s) (suc e) = ruled_send [] s e
  ruled_send (rule ∷ own) (x ∷ s) zero = send_by receives rule x
  ruled_send (rule ∷ own) (x ∷ s) (suc e) = ruled_send own s e

  ruled_push : (own : List (Option EventRule)) (s : Skeleton) (x : SkeletonEvent)
      → ruled_events receives own (s ++ x ∷ []) ≡ ruled_events receives own s ++ event_by receives (slice_index_or own (length s) None) x ∷ []
  ruled_push [] [] x = refl
  ruled_push (rule ∷ own) [] x = refl
  ruled_push [] (y ∷ s) x = ap (λ (t : ClockEvents). clock_event receives y ∷ t) (ruled_push [] s x)
  ruled_push (rule ∷ own) (y ∷ s) x = ap (λ (t : ClockEvents). event_by receives rule y ∷ t) (ruled_push own s x)

module _ (rules : ClockRules) where
  pub clock_events_size : (s : Skeleton) → length (clock_events rules s) ≡ length s
  clock_events_size s = ruled_size rules.receives rules.own s

  pub clock_events_at : (s : Skeleton) (e : ℕ) → e < length s
      → clock_event_at (clock_events rules s) e ≡ event_by rules.receives (own_at rules e) (skeleton_at s e)
  clock_events_at s e exists = ruled_at rules.receives rules.own s e exists

  -- one more event has the rule that stands at its place
  pub clock_events_push : (s : Skeleton) (x : SkeletonEvent)
      → clock_events rules (s ++ x ∷ []) ≡ clock_events rules s ++ event_by rules.receives (own_at rules (length s)) x ∷ []
  clock_events_push s x = ruled_push rules.receives rules.own s x

abbrev no_clock_event : ClockEvent
no_clock_event = record { node = 0; floor = zero_pair; ticks = true; send = None }

-- only the rules at the places of events matter
pub same_clock_events : (rules others : ClockRules) (s : Skeleton) → rules.receives ≡ others.receives
    → ((e : ℕ) → e < length s → own_at rules e ≡ own_at others e) → clock_events rules s ≡ clock_events others s
same_clock_events rules others s receives same =
    ext_get_or no_clock_event (clock_events rules s) (clock_events others s) (clock_events_size rules s ∙ sym (clock_events_size others s)) (λ e lt.
    let exists : e < length s = omega (arith, lt, clock_events_size rules s) in
    clock_events_at rules s e exists
    ∙ ap (λ (o : Option EventRule). event_by rules.receives o (skeleton_at s e)) (same e exists)
    ∙ ap (λ r. event_by r (own_at others e) (skeleton_at s e)) receives
    ∙ sym (clock_events_at others s e exists))

pub ticking_receives_tick : TickingReceivesTick
ticking_receives_tick [] = refl
ticking_receives_tick (x ∷ s) =
    ap (λ y. y ∷ clock_events (plain_rules Tick) s) (ticking_received x)
    ∙ ap (λ (rest : ClockEvents). ticking_event x ∷ rest) (ticking_receives_tick s)

-- the skeleton has the same nodes and sends
pub same_links : (rules : ClockRules) (s : Skeleton) → IsSameLinks s (clock_skeleton (clock_events rules s))
same_links rules s =
    let t = clock_events rules s in
    record {
      size = sym (skeleton_size t ∙ clock_events_size rules s);
      node = λ e. sym (ap (λ (x : SkeletonEvent). x.node) (clock_skeleton_at t e) ∙ ruled_node rules.receives rules.own s e);
      send = λ e. sym (ap (λ (x : SkeletonEvent). x.send) (clock_skeleton_at t e) ∙ ruled_send rules.receives rules.own s e);
    }

pub rules_keep_previous : RulesKeepPrevious
rules_keep_previous rules s e f =
    let t = clock_skeleton (clock_events rules s) in
    let same = same_links rules s in (previous_kept s t same e f, previous_kept t s (same_links_back s t same) e f)

pub rules_keep_sends : RulesKeepSends
rules_keep_sends rules s e f =
    let t = clock_skeleton (clock_events rules s) in
    let same = same_links rules s in (send_kept s t same e f, send_kept t s (same_links_back s t same) e f)

-- from event to event they lead as they do in the skeleton
pub leads_as_in : (rules : ClockRules) (s : Skeleton) (e : ℕ) (rest : List ℕ) (f : ℕ)
    → LeadsTo s e rest f ↔ LeadsTo (clock_skeleton (clock_events rules s)) e rest f
leads_as_in rules s e rest f =
    let t = clock_skeleton (clock_events rules s) in
    let same = same_links rules s in (leads_kept s t same e rest f, leads_kept t s (same_links_back s t same) e rest f)
