-- The direct predecessors of an event by functions, and the greatest of the pairs claimed there.
use Rattle.std.proofs.Common.{◌≡◌, ◌↔◌, ◌∙◌, Bool, true, false, ℕ, ◌<◌, ◌≤◌, ◌⊎◌, inl, inr, List, length}
use Rattle.std.proofs.Common.{Option, Some, None, arith, refl, subst, sym, ap}
use Rattle.std.specs.Prelude.{if◌then◌else◌, is_some, nat_le}
use Rattle.std.proofs.lemmas.Bool.Decides.{nat_tests}
use Rattle.std.specs.Option.{option_or}
use Rattle.std.specs.Ordering.{is_le, is_lt}
use Rattle.std.proofs.lemmas.Bool.{cases_Bool}
use Rattle.hlc_stamp.specs.declared.id.EventId.{EventId}
use Rattle.hlc_stamp.specs.Order.{IsAtMost, IsBelow, Pair, stamp_cmp}
use Rattle.hlc_stamp.proofs.OrderLaws.{at_most_from_below, at_most_itself, at_most_trans}
use Rattle.hlc_causality.specs.Assignment.{pair_at}
use Rattle.hlc_causality.specs.Causality.{IsPrevious, IsSendOf, Skeleton}
use Rattle.hlc_causality.specs.ClockEvents.{ClockEvents, clock_event_at, clock_skeleton}
use Rattle.hlc_causality.specs.Feasible.{Follows, IsFeasibleAt, IsLeastFeasibleAt}
use Rattle.hlc_causality.specs.LeastFeasible.{next_pair}
use Rattle.hlc_causality.specs.Neighbours.{NamesPrevious, NamesSend, place_of}
use Rattle.hlc_causality.specs.Predecessors.{previous_of, send_of}
use Rattle.hlc_causality.proofs.NextPairs.{at_most_follows, at_most_from_follows, next_at_most}
use Rattle.hlc_causality.proofs.Predecessors.{previous_is_unique, send_is_unique}
use Rattle.hlc_causality.proofs.PredecessorsFound.{Finds, previous_found, send_found}
use Rattle.hlc_causes.specs.Causes.{IsLeastWritten, RollsOver}
use Rattle.hlc_causes.specs.Rule.{greatest_of, next_l, rule_pair}
use Rattle.hlc_causes.specs.Verdicts.{first_not_above, if_not_above}
use Rattle.hlc_causes.proofs.Disorder.{exists_there, found_is, some_is_so}
use Rattle.hlc_causes.proofs.Tests.{above_from_test, at_most_from_test, below_from_test, follows_if_below, next_follows, no_less}
use Rattle.hlc_causes.proofs.Written.{next_written, rule_is_unique, rule_written}

pub none_found : (P : ℕ → Type 0) (o : Option ℕ) → Finds P o → ((d : ℕ) → ¬ P d) → o ≡ None
none_found P None found none = refl
none_found P (Some d) found none = absurd (none d found)

-- what names the previous event names the one that is found
pub previous_named : (s : Skeleton) (f : ℕ) (link : Option EventId) → f < length s → NamesPrevious s f link → place_of link ≡ previous_of s f
previous_named s f None exists names =
    sym (none_found (λ d. IsPrevious s d f) (previous_of s f) (previous_found s f exists) (λ d h. names d h.at_node))
previous_named s f (Some d) exists names =
    sym (found_is (λ x. IsPrevious s x f) (λ x y. previous_is_unique s x y f) (previous_of s f) (previous_found s f exists) d.0 names)

-- and so does what names the send
pub send_named : (s : Skeleton) (f : ℕ) (link : Option EventId) → f < length s → NamesSend s f link → place_of link ≡ send_of s f
send_named s f None exists names = sym (none_found (λ d. IsSendOf s d f) (send_of s f) (send_found s f exists) names)
send_named s f (Some d) exists names =
    sym (found_is (λ x. IsSendOf s x f) (λ x y. send_is_unique s x y f) (send_of s f) (send_found s f exists) d.0 names)

-- the send is earlier
pub send_is_earlier : (s : Skeleton) (f : ℕ) (link : Option EventId) → f < length s → place_of link ≡ send_of s f →
    (d : EventId) → link ≡ Some d → d.0 < f
send_is_earlier s f link exists named d is =
    (some_is_so (λ x. IsSendOf s x f) (send_of s f) (send_found s f exists) d.0 (sym named ∙ ap place_of is)).earlier

-- the first event directly after which the stamp may not come was found
pub first_is : (t : ClockEvents) (claimed : List Pair) (f : ℕ) (previous send found : Option EventId) →
    place_of found ≡ option_or (if_not_above t claimed f (place_of previous)) (if_not_above t claimed f (place_of send)) →
    place_of previous ≡ previous_of (clock_skeleton t) f → place_of send ≡ send_of (clock_skeleton t) f →
    first_not_above t claimed f ≡ place_of found
first_is t claimed f previous send found is is_previous is_send =
    let both = λ (a b : Option ℕ). option_or (if_not_above t claimed f a) (if_not_above t claimed f b) in
    sym (ap (λ (a : Option ℕ). both a (place_of send)) is_previous ∙ ap (both (previous_of (clock_skeleton t) f)) is_send) ∙ sym is

-- or there is none
pub none_if_none : (found : Option EventId) → is_some found ≡ false → place_of found ≡ None
none_if_none None test = refl
none_if_none (Some d) test = absurd cc

-- an event is named exactly if its place is
pub placed : (o : Option EventId) (d : EventId) → (o ≡ Some d) ↔ (place_of o ≡ Some d.0)
placed None d = (λ is. absurd cc, λ is. absurd cc)
placed (Some e) d = (
  λ is. ap place_of is,
  λ is. let same : e.0 ≡ d.0 = cc in ap (λ (n : ℕ). Some (record { 0 = n })) same,
)

-- so what names an event has its place
pub place_named : (found : Option EventId) (direct : Option ℕ) → ((d : EventId) → (found ≡ Some d) ↔ (direct ≡ Some d.0)) → place_of found ≡ direct
place_named None None named = refl
place_named None (Some n) named = let some = (named (record { 0 = n })).1 refl in absurd cc
place_named (Some d) direct named = sym ((named d).0 refl)

pub not_above_named : (t : ClockEvents) (claimed : List Pair) (f : ℕ) (found link : Option EventId) (direct : Option ℕ) →
    place_of found ≡ if_not_above t claimed f (place_of link) → place_of link ≡ direct →
    (d : EventId) → (found ≡ Some d) ↔ (if_not_above t claimed f direct ≡ Some d.0)
not_above_named t claimed f found link direct is is_link d =
    let same : place_of found ≡ if_not_above t claimed f direct = is ∙ ap (if_not_above t claimed f) is_link in
    (λ named. sym same ∙ (placed found d).0 named, λ here. (placed found d).1 (same ∙ here))

-- a pair may come directly after another one, if there is one
abbrev pub FollowsAny : Bool → Option Pair → Pair → Type 0
FollowsAny ticks None q = Unit {0}
FollowsAny ticks (Some p) q = Follows ticks p q

-- q may come directly after the greatest pair before it, and is not below a floor
pub record IsAllowedAfter (ticks : Bool) (before : Option Pair) (floor q : Pair) : Type 0 where
  pub follows : FollowsAny ticks before q
  pub not_below : IsAtMost floor q

module _ (claimed : List Pair) where
  pub greatest_is : (a b c d : Option ℕ) (found : Option Pair)
      → found ≡ greatest_of claimed a b → a ≡ c → b ≡ d → found ≡ greatest_of claimed c d
  greatest_is a b c d found is same_a same_b =
      is ∙ ap (λ (x : Option ℕ). greatest_of claimed x b) same_a ∙ ap (λ (x : Option ℕ). greatest_of claimed c x) same_b

module _ (claimed : List Pair) (ticks : Bool) (q : Pair) where
  -- q may come directly after the pair claimed at an event
  abbrev IsAfter : ℕ → Type 0
  IsAfter d = Follows ticks (pair_at claimed d) q

  -- what may come after the pairs claimed at two events may come after the greatest of them
  after_greatest : (a b : Option ℕ) → ((d : ℕ) → a ≡ Some d → IsAfter d) → ((d : ℕ) → b ≡ Some d → IsAfter d) →
      FollowsAny ticks (greatest_of claimed a b) q
  after_greatest None None of_a of_b = tt
  after_greatest None (Some e) of_a of_b = of_b e refl
  after_greatest (Some d) None of_a of_b = of_a d refl
  after_greatest (Some d) (Some e) of_a of_b =
      elim (cases_Bool (is_lt (stamp_cmp (pair_at claimed e) (pair_at claimed d)))) [
        | inl test ↦ rw test (of_a d refl)
        | inr test ↦ rw test (of_b e refl)
      ]

  -- and the other way round
  after_both : (d e : ℕ) → FollowsAny ticks (greatest_of claimed (Some d) (Some e)) q → IsAfter d × IsAfter e
  after_both d e after =
      let p = pair_at claimed d in
      let r = pair_at claimed e in
      elim (cases_Bool (is_lt (stamp_cmp r p))) [
        | inl test ↦
            let first : IsAfter d = rw test at after in
            (first, at_most_follows ticks r p q (at_most_from_below r p (below_from_test r p test)) first)
        | inr test ↦
            let second : IsAfter e = rw test at after in
            (at_most_follows ticks p r q (no_less r p test) second, second)
      ]

  after_first : (a b : Option ℕ) → FollowsAny ticks (greatest_of claimed a b) q → (d : ℕ) → a ≡ Some d → IsAfter d
  after_first None b after d is = absurd cc
  after_first (Some x) None after d is = let same : x ≡ d = cc in subst IsAfter same after
  after_first (Some x) (Some e) after d is = let same : x ≡ d = cc in subst IsAfter same (after_both x e after).0

  after_second : (a b : Option ℕ) → FollowsAny ticks (greatest_of claimed a b) q → (d : ℕ) → b ≡ Some d → IsAfter d
  after_second a None after d is = absurd cc
  after_second None (Some x) after d is = let same : x ≡ d = cc in subst IsAfter same after
  after_second (Some e) (Some x) after d is = let same : x ≡ d = cc in subst IsAfter same (after_both e x after).1

module _ (t : ClockEvents) (claimed : List Pair) (f : ℕ) (exists : f < length t) where
  abbrev s : Skeleton
  s = clock_skeleton t

  -- what the rule looks at
  abbrev pub before : Option Pair
  before = greatest_of claimed (previous_of s f) (send_of s f)

  abbrev pub floor : Pair
  floor = (clock_event_at t f).floor

  abbrev pub ticks : Bool
  ticks = (clock_event_at t f).ticks

  there : f < length s
  there = exists_there t claimed f exists

  -- what is feasible at f is what may come next
  pub next_if_feasible : (q : Pair) → IsFeasibleAt t claimed f q → IsAllowedAfter ticks before floor q
  next_if_feasible q feasible =
      let is_previous = some_is_so (λ x. IsPrevious s x f) (previous_of s f) (previous_found s f there) in
      let is_send = some_is_so (λ x. IsSendOf s x f) (send_of s f) (send_found s f there) in
      record {
        follows = after_greatest claimed ticks q (previous_of s f) (send_of s f)
            (λ d is. feasible.follows d (inl (is_previous d is))) (λ d is. feasible.follows d (inr (is_send d is)));
        not_below = feasible.not_below;
      }

  pub feasible_if_next : (q : Pair) → IsAllowedAfter ticks before floor q → IsFeasibleAt t claimed f q
  feasible_if_next q next =
      let found_previous = found_is (λ x. IsPrevious s x f) (λ x y. previous_is_unique s x y f) (previous_of s f) (previous_found s f there) in
      let found_send = found_is (λ x. IsSendOf s x f) (λ x y. send_is_unique s x y f) (send_of s f) (send_found s f there) in
      record {
        not_below = next.not_below;
        follows = λ d direct. elim direct [
          | inl h ↦ after_first claimed ticks q (previous_of s f) (send_of s f) next.follows d (found_previous d h)
          | inr h ↦ after_second claimed ticks q (previous_of s f) (send_of s f) next.follows d (found_send d h)
        ];
      }

  module _ (p : Pair) (is : before ≡ Some p) where
    abbrev next : Pair
    next = next_pair ticks p

    after_p : (q : Pair) → IsFeasibleAt t claimed f q → Follows ticks p q
    after_p q feasible = subst (λ o. FollowsAny ticks o q) is (next_if_feasible q feasible).follows

    feasible_after_p : (q : Pair) → Follows ticks p q → IsAtMost floor q → IsFeasibleAt t claimed f q
    feasible_after_p q after reached =
        feasible_if_next q (record { follows = subst (λ o. FollowsAny ticks o q) (sym is) after; not_below = reached })

    rule_counts : IsAtMost floor p → IsLeastFeasibleAt t claimed f next
    rule_counts reached =
        let after = next_follows ticks p in
        record {
          feasible = feasible_after_p next after (at_most_trans floor p next reached (at_most_from_follows ticks p next after));
          least = λ q feasible. next_at_most ticks p q (after_p q feasible);
        }

    rule_reads : IsBelow p floor → IsLeastFeasibleAt t claimed f floor
    rule_reads leads = record {
      feasible = feasible_after_p floor (follows_if_below ticks p floor leads) (at_most_itself floor);
      least = λ q feasible. feasible.not_below;
    }

  rule_first : before ≡ None → IsLeastFeasibleAt t claimed f floor
  rule_first is =
      let nothing : FollowsAny ticks None floor = tt in
      let next : IsAllowedAfter ticks before floor floor =
      record { follows = subst (λ o. FollowsAny ticks o floor) (sym is) nothing; not_below = at_most_itself floor } in
      record { feasible = feasible_if_next floor next; least = λ q feasible. feasible.not_below }

  -- the rule's pair, by what the rule looks at
  pub rule_pair_where : (o : Option Pair) → before ≡ o → IsLeastFeasibleAt t claimed f (rule_pair ticks o floor)
  rule_pair_where None is = rule_first is
  rule_pair_where (Some p) is =
      elim (cases_Bool (is_le (stamp_cmp floor p))) [
        | inl test ↦ rw test (rule_counts p is (at_most_from_test floor p test))
        | inr test ↦ rw test (rule_reads p is (above_from_test floor p test))
      ]

  module _ (counts : Bool) (found : Option Pair) (low : Pair) (is_ticks : counts ≡ ticks) (is_before : found ≡ before) (is_floor : low ≡ floor) where
    abbrev rule : Pair
    rule = rule_pair counts found low

    rule_is : IsLeastFeasibleAt t claimed f rule
    rule_is =
        let same : rule ≡ rule_pair ticks before floor =
        ap (λ (b : Bool). rule_pair b found low) is_ticks ∙ ap (λ (o : Option Pair). rule_pair ticks o low) is_before
        ∙ ap (rule_pair ticks before) is_floor in
        subst (λ (q : Pair). IsLeastFeasibleAt t claimed f q) (sym same) (rule_pair_where before refl)

    -- a stamp that may be there has a greater l, if the rule's c is too great for it
    pub greater_l_left : (top : ℕ) → IsFeasibleAt t claimed f (pair_at claimed f) → (pair_at claimed f).c ≤ top → top < rule.c →
        rule.l < (pair_at claimed f).l
    greater_l_left top fit fits full = by_order rule (pair_at claimed f) (rule_is.least (pair_at claimed f) fit) fits full
      where
        by_order : (r q : Pair) → IsAtMost r q → q.c ≤ top → top < r.c → r.l < q.l
        by_order r q least fits full = grind arith

    -- the rule's pair, or the one with the next l, is the least that can be written
    pub written_is : (top : ℕ) (p : Pair) → p ≡ (if nat_le rule.c top then rule else next_l rule) → IsLeastWritten t claimed top f p
    written_is top p is = subst (λ (q : Pair). IsLeastWritten t claimed top f q) (sym is) (by_test (cases_Bool (nat_le rule.c top)))
      where
        by_test : (nat_le rule.c top ≡ true) ⊎ (nat_le rule.c top ≡ false) → IsLeastWritten t claimed top f (if nat_le rule.c top then rule else next_l rule)
        by_test (inl test) = let fits : rule.c ≤ top = grind (arith, nat_tests, test) in rw test (rule_written t claimed f top rule rule_is fits)
        by_test (inr test) = let full : top < rule.c = grind (arith, nat_tests, test) in rw test (next_written t claimed f top rule rule_is full)

    -- a stamp rolls over exactly if it has the next l after a rule's pair whose c is too great
    pub rolls_over_by : (full : ℕ) → ((full < rule.c) × (pair_at claimed f ≡ next_l rule)) ↔ RollsOver t claimed full f
    rolls_over_by full = (
      λ told. (rule, record { rule = rule_is; too_great = told.0; next = told.1 }),
      λ rolls.
          let same = rule_is_unique t claimed f rolls.0 rule rolls.1.rule rule_is in
          (subst (λ (q : Pair). full < q.c) same rolls.1.too_great, rolls.1.next ∙ ap next_l same),
    )
