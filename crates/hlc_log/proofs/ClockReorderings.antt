-- A reordering keeps least pairs by floors and ticks.
use Rattle.std.proofs.Common.{◌≡◌, ◌∙◌, ℕ, ◌<◌, Bool, true, false, List, length, Option, Some, None, arith, refl, subst, sym, ap}
use Rattle.std.specs.Prelude.{is_some}
use Rattle.hlc_stamp.specs.Order.{IsAtMost, Pair}
use Rattle.hlc_causality.specs.declared.event_rule.EventRule.{EventRule}
use Rattle.hlc_causality.specs.declared.receives.Receives.{Receives}
use Rattle.hlc_causality.specs.Assignment.{pair_at}
use Rattle.hlc_causality.specs.Causality.{Skeleton, SkeletonEvent, skeleton_at}
use Rattle.hlc_causality.specs.ClockEvents.{ClockEvent, ClockEvents, clock_event_at, clock_skeleton}
use Rattle.hlc_causality.specs.Feasible.{Follows, IsFeasible, IsLeastFeasible}
use Rattle.hlc_causality.specs.ReceiveEvents.{ClockRules, clock_events, event_by, own_at}
use Rattle.hlc_causality.proofs.ClockEvents.{clock_skeleton_at, skeleton_size}
use Rattle.hlc_causality.proofs.Pairs.{at_most_antisymm}
use Rattle.hlc_causality.proofs.Predecessors.{direct_earlier}
use Rattle.hlc_causality.proofs.ReceiveEvents.{clock_events_at, clock_events_size, floor_by_rule, rule_floor, rule_ticks, same_links, ticks_by_rule}
use Rattle.hlc_causality.proofs.SameLinks.{earlier_kept, same_links_back, send_kept}
use Rattle.hlc_log.specs.Laws.{ClockReorderingKeepsLeast, RulesAreReordered}
use Rattle.hlc_log.specs.Reordering.{IsClockReordering, IsReordering, KeepsEvents, SendsAreNamed}
use Rattle.hlc_log.proofs.Reorderings.{direct_kept, length-pairs_along, pair_along, pairs_along, turned}

module _ (t u : ClockEvents) (to back : ℕ → ℕ) (h : IsClockReordering t u to back) where
  -- the other way round
  pub clocks_turned : IsClockReordering u t back to
  clocks_turned = record {
    links = turned (clock_skeleton t) (clock_skeleton u) to back h.links;
    floor = λ e lt.
        let exists = h.links.here.exists e (omega (arith, lt, skeleton_size u)) in
        sym (h.floor (back e) (omega (arith, exists, skeleton_size t)))
        ∙ ap (λ x. (clock_event_at u x).floor) (h.links.back_there e (omega (arith, lt, skeleton_size u)));
    ticks = λ e lt.
        let exists = h.links.here.exists e (omega (arith, lt, skeleton_size u)) in
        sym (h.ticks (back e) (omega (arith, exists, skeleton_size t)))
        ∙ ap (λ x. (clock_event_at u x).ticks) (h.links.back_there e (omega (arith, lt, skeleton_size u)));
  }

  -- the pairs of u, at the events of t
  abbrev along : List Pair → List Pair
  along pairs = pairs_along (clock_skeleton t) (clock_skeleton u) to h.links.there pairs

  along_at : (pairs : List Pair) (e : ℕ) → e < length t → pair_at (along pairs) e ≡ pair_at pairs (to e)
  along_at pairs e lt = pair_along (clock_skeleton t) (clock_skeleton u) to h.links.there pairs e (omega (arith, lt, skeleton_size t))

  -- they are feasible there
  feasible_along : (pairs : List Pair) → IsFeasible u pairs → IsFeasible t (along pairs)
  feasible_along pairs feasible = record {
    one_each = length-pairs_along (clock_skeleton t) (clock_skeleton u) to h.links.there pairs ∙ skeleton_size t;
    each = λ f lt.
        let exists = h.links.there.exists f (omega (arith, lt, skeleton_size t)) in
        let there = feasible.each (to f) (omega (arith, exists, skeleton_size u)) in
        record {
          not_below = subst (IsAtMost (clock_event_at t f).floor) (sym (along_at pairs f lt))
              (subst (λ (p : Pair). IsAtMost p (pair_at pairs (to f))) (h.floor f lt) there.not_below);
          follows = λ d direct.
              let earlier = direct_earlier (clock_skeleton t) d f direct in
              let step = there.follows (to d) (direct_kept (clock_skeleton t) (clock_skeleton u) to back h.links d f direct) in
              subst (λ (p : Pair). Follows (clock_event_at t f).ticks p (pair_at (along pairs) f)) (sym (along_at pairs d (omega arith)))
              (subst (Follows (clock_event_at t f).ticks (pair_at pairs (to d))) (sym (along_at pairs f lt))
              (subst (λ b. Follows b (pair_at pairs (to d)) (pair_at pairs (to f))) (h.ticks f lt) step));
        };
  }

  -- so the least pairs of t are at most those of u
  pub clock_least_at_most : (pairs others : List Pair) → IsLeastFeasible t pairs → IsLeastFeasible u others
      → (e : ℕ) → e < length t → IsAtMost (pair_at pairs e) (pair_at others (to e))
  clock_least_at_most pairs others least other e lt =
      subst (IsAtMost (pair_at pairs e)) (along_at others e lt) (least.least (along others) (feasible_along others other.feasible) e lt)

pub clock_reordering_keeps_least : ClockReorderingKeepsLeast
clock_reordering_keeps_least t u to back h pairs others least other e exists =
    let lt : e < length t = omega (arith, exists, skeleton_size t) in
    let there = h.links.there.exists e exists in
    at_most_antisymm (pair_at pairs e) (pair_at others (to e))
    (clock_least_at_most t u to back h pairs others least other e lt)
    (subst (λ (x : ℕ). IsAtMost (pair_at others (to e)) (pair_at pairs x)) (h.links.back_here e exists)
    (clock_least_at_most u t back to (clocks_turned t u to back h) others pairs other least (to e) (omega (arith, there, skeleton_size u))))

-- whether an event receives something, by a test that goes both ways
same_test : (a b : Bool) → (a ≡ true → b ≡ true) → (b ≡ true → a ≡ true) → a ≡ b
same_test true b there here = sym (there refl)
same_test false true there here = here refl
same_test false false there here = refl

named_send : (o : Option ℕ) → is_some o ≡ true → (d : ℕ) × (o ≡ Some d)
named_send None is = absurd cc
named_send (Some d) is = (d, refl)

module _ (s t : Skeleton) (to back : ℕ → ℕ) (h : IsReordering s t to back) (named : SendsAreNamed s) where
  receive_kept : (e : ℕ) → is_some (skeleton_at s e).send ≡ true → is_some (skeleton_at t (to e)).send ≡ true
  receive_kept e is =
      let send = named_send (skeleton_at s e).send is in
      ap is_some (h.there.send send.0 e (named send.0 e send.1)).delivers

-- by one rule, or by clocks that do the same at receives, events of one kind and reading have one floor, and both tick or neither
module _ (receives : Receives) (x y : SkeletonEvent) (kind : is_some y.send ≡ is_some x.send) where
  floor_by : (own : Option EventRule) → y.reading ≡ x.reading → (event_by receives own y).floor ≡ (event_by receives own x).floor
  floor_by None reading = floor_by_rule y receives ∙ (λ i. rule_floor (kind i) receives (reading i)) ∙ sym (floor_by_rule x receives)
  floor_by (Some rule) reading = refl

  ticks_by : (own : Option EventRule) → (event_by receives own y).ticks ≡ (event_by receives own x).ticks
  ticks_by None = ticks_by_rule y receives ∙ ap (λ b. rule_ticks b receives) kind ∙ sym (ticks_by_rule x receives)
  ticks_by (Some rule) = refl

module _ (rules others : ClockRules) (s t : Skeleton) (to back : ℕ → ℕ) (h : IsReordering s t to back) (named : SendsAreNamed s) (other_named : SendsAreNamed t)
    (receives : others.receives ≡ rules.receives) (own : (e : ℕ) → e < length s → own_at others (to e) ≡ own_at rules e) where
  abbrev here : ClockEvents
  here = clock_events rules s

  abbrev there : ClockEvents
  there = clock_events others t

  same_kind : (e : ℕ) → e < length s → is_some (skeleton_at t (to e)).send ≡ is_some (skeleton_at s e).send
  same_kind e lt = same_test (is_some (skeleton_at t (to e)).send) (is_some (skeleton_at s e).send)
      (λ is. ap (λ x. is_some (skeleton_at s x).send) (sym (h.back_here e lt))
      ∙ receive_kept t s back to (turned s t to back h) other_named (to e) is)
      (receive_kept s t to back h named e)

  -- the event of t has the rule that the one of s has
  moved_event : (e : ℕ) → e < length s → clock_event_at there (to e) ≡ event_by rules.receives (own_at rules e) (skeleton_at t (to e))
  moved_event e lt =
      clock_events_at others t (to e) (h.there.exists e lt)
      ∙ ap (λ r. event_by r (own_at others (to e)) (skeleton_at t (to e))) receives
      ∙ ap (λ (o : Option EventRule). event_by rules.receives o (skeleton_at t (to e))) (own e lt)

  pub same_floor : (e : ℕ) → e < length s → (clock_event_at there (to e)).floor ≡ (clock_event_at here e).floor
  same_floor e lt =
      ap (λ (x : ClockEvent). x.floor) (moved_event e lt)
      ∙ floor_by rules.receives (skeleton_at s e) (skeleton_at t (to e)) (same_kind e lt) (own_at rules e) (h.there.reading e lt)
      ∙ sym (ap (λ (x : ClockEvent). x.floor) (clock_events_at rules s e lt))

  pub same_ticks : (e : ℕ) → e < length s → (clock_event_at there (to e)).ticks ≡ (clock_event_at here e).ticks
  same_ticks e lt =
      ap (λ (x : ClockEvent). x.ticks) (moved_event e lt)
      ∙ ticks_by rules.receives (skeleton_at s e) (skeleton_at t (to e)) (same_kind e lt) (own_at rules e)
      ∙ sym (ap (λ (x : ClockEvent). x.ticks) (clock_events_at rules s e lt))

  pub links_kept : KeepsEvents (clock_skeleton here) (clock_skeleton there) to
  links_kept =
      let size = skeleton_size here ∙ clock_events_size rules s in
      let other_size = skeleton_size there ∙ clock_events_size others t in
      let links = same_links rules s in
      let other_links = same_links others t in
      record {
        exists = λ e lt. let exists = h.there.exists e (omega (arith, lt, size)) in omega (arith, exists, other_size);
        reading = λ e lt.
            ap (λ (x : SkeletonEvent). x.reading) (clock_skeleton_at there (to e))
            ∙ ap (λ (p : Pair). p.l) (same_floor e (omega (arith, lt, size)))
            ∙ sym (ap (λ (x : SkeletonEvent). x.reading) (clock_skeleton_at here e));
        at_node = λ d e k.
            earlier_kept t (clock_skeleton there) other_links (to d) (to e)
            (h.there.at_node d e (earlier_kept (clock_skeleton here) s (same_links_back s (clock_skeleton here) links) d e k));
        send = λ d e k.
            send_kept t (clock_skeleton there) other_links (to d) (to e)
            (h.there.send d e (send_kept (clock_skeleton here) s (same_links_back s (clock_skeleton here) links) d e k));
      }

pub rules_are_reordered : RulesAreReordered
rules_are_reordered rules others s t to back h named other_named receives own =
    let size = clock_events_size rules s in
    let skeleton = skeleton_size (clock_events rules s) in
    let other_size = clock_events_size others t in
    let other_skeleton = skeleton_size (clock_events others t) in
    let own_back : (f : ℕ) → f < length t → own_at rules (back f) ≡ own_at others f =
    λ f lt. sym (own (back f) (h.here.exists f lt)) ∙ ap (own_at others) (h.back_there f lt) in
    record {
      links = record {
        there = links_kept rules others s t to back h named other_named receives own;
        here = links_kept others rules t s back to (turned s t to back h) other_named named (sym receives) own_back;
        back_here = λ e lt. h.back_here e (omega (arith, lt, size, skeleton));
        back_there = λ f lt. h.back_there f (omega (arith, lt, other_size, other_skeleton));
      };
      floor = λ e lt. same_floor rules others s t to back h named other_named receives own e (omega (arith, lt, size));
      ticks = λ e lt. same_ticks rules others s t to back h named other_named receives own e (omega (arith, lt, size));
    }
