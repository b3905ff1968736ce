-- Reordered traces have the same answers.
use Rattle.std.proofs.Common.{◌≡◌, ◌≢◌, ◌∙◌, Bool, true, false, cond, ℕ, zero, suc, ◌<◌, inl, inr, List, length, Option, Some, None, arith, refl, subst, sym, ap}
use Rattle.std.specs.Prelude.{◌↔◌, max, option_map, slice_set}
use Rattle.std.proofs.lemmas.Bool.{cases_Bool, cases_eq}
use Rattle.std.proofs.lemmas.List.{get_or-set_other, get_or-set_same}
use Rattle.std.specs.Option.{option_or}
use Rattle.std.specs.Ordering.{is_lt}
use Rattle.std.specs.declared.cmp.Ordering.{Ordering}
use Rattle.std.specs.declared.cmp.Ordering.TheVariants.{Equal, Greater, Less}
use Rattle.hlc_stamp.specs.declared.id.EventId.{EventId}
use Rattle.hlc_stamp.specs.Order.{IsAtMost, IsBelow, Pair, stamp_cmp, zero_pair}
use Rattle.hlc_causality.specs.Assignment.{pair_at}
use Rattle.hlc_causality.specs.Causality.{IsDirectPredecessor, IsEarlierAtNode, IsPrevious, IsSendOf, Skeleton}
use Rattle.hlc_causality.specs.ClockEvents.{ClockEvents, clock_event_at, clock_skeleton}
use Rattle.hlc_causality.specs.Feasible.{Follows, IsFeasibleAt, IsLeastFeasible, IsLeastFeasibleAt}
use Rattle.hlc_causality.specs.Neighbours.{place_of}
use Rattle.hlc_causality.specs.Predecessors.{previous_of, send_of}
use Rattle.hlc_causality.specs.ReceiveEvents.{own_at}
use Rattle.hlc_causality.proofs.ClockEvents.{skeleton_size}
use Rattle.hlc_causality.proofs.ReceiveEvents.{clock_events_size}
use Rattle.hlc_causality.proofs.Predecessors.{direct_earlier, direct_exists, previous_is_unique, send_is_unique}
use Rattle.hlc_causality.proofs.PredecessorsFound.{Finds, previous_found, send_found}
use Rattle.hlc_verdict.specs.declared.verdict.Verdict.{Verdict}
use Rattle.hlc_verdict.specs.declared.verdict.Verdict.TheVariants as verdict
use Rattle.hlc_verdict.specs.Verdict.{not_above_or, verdict_by_least}
use Rattle.hlc_causes.specs.Causes.{IsAheadOf, IsBehind, RollsOver, RollsOverAhead, IsLeastWritten, NamesCauses, NamesFinding, top_at}
use Rattle.hlc_causes.specs.Given.{given_at, rule_pair_at, stamp_for}
use Rattle.hlc_causes.specs.Seen.{seen as seen_pairs}
use Rattle.hlc_causes.specs.Verdicts.{first_not_above, follows, if_not_above, verdict_on}
use Rattle.hlc_causes.specs.declared.answers.Cause.TheVariants.{Ahead, Behind, NotAbovePrevious, NotAboveSend}
use Rattle.hlc_causes.specs.declared.answers.Causes.{Causes}
use Rattle.hlc_causes.specs.declared.answers.Finding.{Finding}
use Rattle.hlc_causes.specs.declared.answers.Finding.TheVariants.{RolledOver, Judged}
use Rattle.hlc_causes.proofs.CauseLaws.{names_each}
use Rattle.hlc_causes.proofs.Disorder.{found_is, some_is_so}
use Rattle.hlc_causes.proofs.Given.{rule_pair_is}
use Rattle.hlc_causes.proofs.Written.{rule_is_unique}
use Rattle.hlc_causes.proofs.Predecessors.{none_found, place_named, placed}
use Rattle.hlc_log.specs.CausalOrder.{place_at}
use Rattle.hlc_log.specs.Events.{event_at}
use Rattle.hlc_log.specs.OrderSkeleton.{rules_in}
use Rattle.hlc_log.specs.Reordering.{HaveEqualPairs, IsClockReordering, IsReordering, IsSameNode}
use Rattle.hlc_log.proofs.Agreement.{own_kept, skeletons_reordered}
use Rattle.hlc_log.proofs.ClockReorderings.{clock_reordering_keeps_least, clocks_turned, rules_are_reordered}
use Rattle.hlc_log.proofs.OrderSkeletons.{length-skeleton_in, place_exists, place_of_index, sends_are_named}
use Rattle.hlc_log.proofs.Reorderings.{direct_kept, direct_returned, earlier_returned, equal_turned, previous_kept, previous_returned, same_node_turned, send_returned, turned}
use Rattle.hlc_ordered_log.specs.InOrder.{LogInOrder, carried_of, claimed_of, clocks_of, seen_of, skeleton_of, stamp_told}
use Rattle.hlc_ordered_log.specs.Laws.{KeepsTold, LogsAreReorderedTraces, ReorderingKeepsCauses, ReorderingKeepsFindings, ReorderingKeepsSkews, ReorderingKeepsVerdicts}
use Rattle.hlc_ordered_log.specs.Moved.{moved_causes, moved_event, moved_finding, moved_skew, moved_verdict}
use Rattle.hlc_ordered_log.specs.Reordered.{IsReorderedTrace, TellTheSame, moved_position}
use Rattle.hlc_ordered_log.specs.Skew.{IsMessage, IsSkewBefore, NamesSkewBefore}
use Rattle.hlc_ordered_log.specs.declared.skew.Skew.{Skew}
use Rattle.hlc_ordered_log.proofs.EventsInOrder.{length-claimed_of, length-clocks_of}
use Rattle.hlc_ordered_log.proofs.Ordering.{claimed_at}

-- what is found in the one order is found in the other
found_moved : (to back : ℕ → ℕ) (P Q : ℕ → Type 0) → ((d e : ℕ) → Q d → Q e → d ≡ e) → ((d : ℕ) → P d → Q (to d)) → ((d : ℕ) → Q d → P (back d))
    → (o p : Option ℕ) → Finds P o → Finds Q p → p ≡ option_map to o
found_moved to back P Q unique kept returned None p none found = none_found Q p found (λ d h. none (back d) (returned d h))
found_moved to back P Q unique kept returned (Some d) p here found = found_is Q unique p found (to d) (kept d here)

-- tests that are the same, over numbers that are moved
module _ (to : ℕ → ℕ) where
  pub cond_moved : (test : Bool) (d : ℕ) → cond test (Some (to d)) None ≡ option_map to (cond test (Some d) None)
  cond_moved true d = refl
  cond_moved false d = refl

  unless_moved : (test : Bool) (d : ℕ) → cond test None (Some (to d)) ≡ option_map to (cond test None (Some d))
  unless_moved true d = refl
  unless_moved false d = refl

  or_moved : (a b : Option ℕ) → option_or (option_map to a) (option_map to b) ≡ option_map to (option_or a b)
  or_moved None b = refl
  or_moved (Some d) b = refl

  abbrev judged : Bool → Ordering → Option ℕ → Pair → Verdict
  judged test order first least = cond test verdict.Behind (not_above_or first (verdict_by_least least order))

  judged_moved : (test : Bool) (order : Ordering) (first : Option ℕ) (least : Pair)
      → judged test order (option_map to first) least ≡ moved_verdict to (judged test order first least)
  judged_moved true order first least = refl
  judged_moved false order (Some d) least = refl
  judged_moved false Less None least = refl
  judged_moved false Equal None least = refl
  judged_moved false Greater None least = refl

-- direct predecessors by functions
module _ (s t : Skeleton) (to back : ℕ → ℕ) (h : IsReordering s t to back) (f : ℕ) (exists : f < length s) where
  pub previous_moved : previous_of t (to f) ≡ option_map to (previous_of s f)
  previous_moved =
      found_moved to back (λ d. IsPrevious s d f) (λ d. IsPrevious t d (to f)) (λ d e. previous_is_unique t d e (to f))
      (λ d previous. previous_kept s t to back h d f previous) (λ d previous. previous_returned s t to back h f exists d previous)
      (previous_of s f) (previous_of t (to f)) (previous_found s f exists) (previous_found t (to f) (h.there.exists f exists))

  pub send_moved : send_of t (to f) ≡ option_map to (send_of s f)
  send_moved =
      found_moved to back (λ d. IsSendOf s d f) (λ d. IsSendOf t d (to f)) (λ d e. send_is_unique t d e (to f))
      (λ d send. h.there.send d f send) (λ d send. send_returned s t to back h f exists d send)
      (send_of s f) (send_of t (to f)) (send_found s f exists) (send_found t (to f) (h.there.exists f exists))

  pub previous_exists : (d : ℕ) → previous_of s f ≡ Some d → d < length s
  previous_exists d is =
      let previous = some_is_so (λ x. IsPrevious s x f) (previous_of s f) (previous_found s f exists) d is in
      let earlier = direct_earlier s d f (inl previous) in
      omega arith

  pub send_exists : (d : ℕ) → send_of s f ≡ Some d → d < length s
  send_exists d is =
      let send = some_is_so (λ x. IsSendOf s x f) (send_of s f) (send_found s f exists) d is in
      let earlier = direct_earlier s d f (inr send) in
      omega arith

-- what is feasible at an event depends on the pairs of its direct predecessors
module _ (t u : ClockEvents) (claimed others : List Pair) (to back : ℕ → ℕ) (clocks : IsClockReordering t u to back) (f : ℕ) (exists : f < length t)
    (same : (d : ℕ) → IsDirectPredecessor (clock_skeleton t) d f → pair_at claimed d ≡ pair_at others (to d)) where
  placed_here : f < length (clock_skeleton t)
  placed_here = omega (arith, exists, skeleton_size t)

  feasible_there : (q : Pair) → IsFeasibleAt t claimed f q → IsFeasibleAt u others (to f) q
  feasible_there q feasible = record {
    not_below = subst (λ (p : Pair). IsAtMost p q) (sym (clocks.floor f exists)) feasible.not_below;
    follows = λ d direct.
        let r = clock_skeleton u in
        let before = direct_returned (clock_skeleton t) r to back clocks.links f placed_here d direct in
        let lt = direct_earlier r d (to f) direct in
        let there = direct_exists r d (to f) direct in
        let equal : pair_at claimed (back d) ≡ pair_at others d =
        same (back d) before ∙ ap (λ (e : ℕ). pair_at others e) (clocks.links.back_there d (omega arith)) in
        subst (λ b. Follows b (pair_at others d) q) (sym (clocks.ticks f exists))
        (subst (λ (p : Pair). Follows (clock_event_at t f).ticks p q) equal (feasible.follows (back d) before));
  }

  feasible_here : (q : Pair) → IsFeasibleAt u others (to f) q → IsFeasibleAt t claimed f q
  feasible_here q feasible = record {
    not_below = subst (λ (p : Pair). IsAtMost p q) (clocks.floor f exists) feasible.not_below;
    follows = λ d direct.
        subst (λ (p : Pair). Follows (clock_event_at t f).ticks p q) (sym (same d direct))
        (subst (λ b. Follows b (pair_at others (to d)) q) (clocks.ticks f exists)
        (feasible.follows (to d) (direct_kept (clock_skeleton t) (clock_skeleton u) to back clocks.links d f direct)));
  }

  least_there : (p : Pair) → IsLeastFeasibleAt t claimed f p → IsLeastFeasibleAt u others (to f) p
  least_there p rule = record {
    feasible = feasible_there p rule.feasible;
    least = λ q feasible. rule.least q (feasible_here q feasible);
  }

  -- so is the stamp that is given
  pub given_moved : given_at u others (to f) ≡ given_at t claimed f
  given_moved =
      let there = clocks.links.there.exists f placed_here in
      ap stamp_for (rule_is_unique u others (to f) (rule_pair_at u others (to f)) (rule_pair_at t claimed f)
      (rule_pair_is u others (to f) (omega (arith, there, skeleton_size u))) (least_there (rule_pair_at t claimed f) (rule_pair_is t claimed f exists)))

-- what an event saw claimed at another one, if that one claims the same
module _ (t u : ClockEvents) (claimed others : List Pair) (to back : ℕ → ℕ) (links : IsReordering (clock_skeleton t) (clock_skeleton u) to back)
    (size : length claimed ≡ length t) (other_size : length others ≡ length u) where
  -- a place among the events
  abbrev pub IsPlace : ℕ → Type 0
  IsPlace d = d < length (clock_skeleton t)

  differ_there : (d e : ℕ) → IsPlace d → IsPlace e → e ≢ d → to e ≢ to d
  differ_there d e d_lt e_lt differ same = differ (sym (links.back_here e e_lt) ∙ ap back same ∙ links.back_here d d_lt)

  pub same_seen : (o : Option ℕ) (carried : Option Pair) → ((d : ℕ) → o ≡ Some d → IsPlace d) → (e : ℕ) → IsPlace e
      → pair_at claimed e ≡ pair_at others (to e) → pair_at (seen_pairs claimed o carried) e ≡ pair_at (seen_pairs others (option_map to o) carried) (to e)
  same_seen None None exist e lt equal = equal
  same_seen None (Some p) exist e lt equal = equal
  same_seen (Some d) None exist e lt equal = equal
  same_seen (Some d) (Some p) exist e lt equal =
      let d_lt : IsPlace d = exist d refl in
      let there = links.there.exists d d_lt in
      let here : d < length claimed = omega (arith, d_lt, size, skeleton_size t) in
      let moved : to d < length others = omega (arith, there, other_size, skeleton_size u) in
      elim (cases_eq e d) [
        | inl same ↦
            ap (pair_at (slice_set claimed d p)) same ∙ get_or-set_same claimed d p zero_pair here
            ∙ sym (get_or-set_same others (to d) p zero_pair moved) ∙ ap (λ (n : ℕ). pair_at (slice_set others (to d) p) (to n)) (sym same)
        | inr differ ↦
            get_or-set_other claimed d e p zero_pair differ ∙ equal
            ∙ sym (get_or-set_other others (to d) (to e) p zero_pair (differ_there d e d_lt lt differ))
      ]

pub turned_trace : (t u : ClockEvents) (claimed others : List Pair) (to back : ℕ → ℕ) → IsReorderedTrace t u claimed others to back
    → IsReorderedTrace u t others claimed back to
turned_trace t u claimed others to back h = record {
  events = clocks_turned t u to back h.events;
  claims = equal_turned (clock_skeleton t) (clock_skeleton u) to back h.events.links claimed others h.claims;
}

moved_exists : (t u : ClockEvents) (claimed others : List Pair) (to back : ℕ → ℕ) → IsReorderedTrace t u claimed others to back
    → (f : ℕ) → f < length t → to f < length u
moved_exists t u claimed others to back h f exists =
    let there = h.events.links.there.exists f (omega (arith, exists, skeleton_size t)) in omega (arith, there, skeleton_size u)

module _ (t u : ClockEvents) (claimed others : List Pair) (to back : ℕ → ℕ) (h : IsReorderedTrace t u claimed others to back) (f : ℕ) (exists : f < length t) where
  abbrev s : Skeleton
  s = clock_skeleton t

  abbrev r : Skeleton
  r = clock_skeleton u

  links : IsReordering s r to back
  links = h.events.links

  shown : f < length s
  shown = omega (arith, exists, skeleton_size t)

  same_ticks : (clock_event_at u (to f)).ticks ≡ (clock_event_at t f).ticks
  same_ticks = h.events.ticks f exists

  same_floor : (clock_event_at u (to f)).floor ≡ (clock_event_at t f).floor
  same_floor = h.events.floor f exists

  same_before : (d : ℕ) → IsDirectPredecessor s d f → pair_at claimed d ≡ pair_at others (to d)
  same_before d direct = let lt = direct_earlier s d f direct in h.claims d (omega (arith, lt, shown))

  -- what is feasible at an event
  feasible_kept : (q : Pair) → IsFeasibleAt t claimed f q → IsFeasibleAt u others (to f) q
  feasible_kept = feasible_there t u claimed others to back h.events f exists same_before

  feasible_returned : (q : Pair) → IsFeasibleAt u others (to f) q → IsFeasibleAt t claimed f q
  feasible_returned = feasible_here t u claimed others to back h.events f exists same_before

  least_feasible_kept : (p : Pair) → IsLeastFeasibleAt t claimed f p → IsLeastFeasibleAt u others (to f) p
  least_feasible_kept = least_there t u claimed others to back h.events f exists same_before

  written_kept : (top : ℕ) (p : Pair) → IsLeastWritten t claimed top f p → IsLeastWritten u others top (to f) p
  written_kept top p least = record {
    feasible = feasible_kept p least.feasible;
    written = least.written;
    least = λ q feasible fits. least.least q (feasible_returned q feasible) fits;
  }

  -- what rolls over, kept or ahead
  rollover_kept : (full : ℕ) → RollsOver t claimed full f → RollsOver u others full (to f)
  rollover_kept full (p, rolls) = (
    p,
    record { rule = least_feasible_kept p rolls.rule; too_great = rolls.too_great; next = sym (h.claims f shown) ∙ rolls.next },
  )

  ahead_kept : (full : ℕ) (p : Pair) → IsAheadOf t claimed full f p → IsAheadOf u others full (to f) p
  ahead_kept full p ahead = record {
    least =
        subst (λ (q : Pair). IsLeastWritten u others (max full q.c) (to f) p) (h.claims f shown)
        (written_kept (top_at claimed full f) p ahead.least);
    ahead = subst (IsBelow p) (h.claims f shown) ahead.ahead;
  }

  -- the first direct predecessor that the stamp isn't above
  abbrev told : Bool → Pair → Pair → ℕ → Option ℕ
  told ticks p q d = cond (follows ticks p q) None (Some d)

  told_moved : (d : ℕ) → told (clock_event_at u (to f)).ticks (pair_at others (to d)) (pair_at others (to f)) (to d)
      ≡ told (clock_event_at t f).ticks (pair_at others (to d)) (pair_at others (to f)) (to d)
  told_moved d = ap (λ b. told b (pair_at others (to d)) (pair_at others (to f)) (to d)) same_ticks

  if_not_above_moved : (o : Option ℕ) → ((d : ℕ) → o ≡ Some d → d < length s)
      → if_not_above u others (to f) (option_map to o) ≡ option_map to (if_not_above t claimed f o)
  if_not_above_moved None there = refl
  if_not_above_moved (Some d) there =
      let ticks = (clock_event_at t f).ticks in
      told_moved d
      ∙ ap (λ (p : Pair). told ticks (pair_at others (to d)) p (to d)) (sym (h.claims f shown))
      ∙ ap (λ (p : Pair). told ticks p (pair_at claimed f) (to d)) (sym (h.claims d (there d refl)))
      ∙ unless_moved to (follows ticks (pair_at claimed d) (pair_at claimed f)) d

  not_above_previous_moved : if_not_above u others (to f) (previous_of r (to f)) ≡ option_map to (if_not_above t claimed f (previous_of s f))
  not_above_previous_moved =
      ap (if_not_above u others (to f)) (previous_moved s r to back links f shown)
      ∙ if_not_above_moved (previous_of s f) (previous_exists s r to back links f shown)

  not_above_send_moved : if_not_above u others (to f) (send_of r (to f)) ≡ option_map to (if_not_above t claimed f (send_of s f))
  not_above_send_moved =
      ap (if_not_above u others (to f)) (send_moved s r to back links f shown)
      ∙ if_not_above_moved (send_of s f) (send_exists s r to back links f shown)

  first_moved : first_not_above u others (to f) ≡ option_map to (first_not_above t claimed f)
  first_moved =
      let previous = if_not_above t claimed f (previous_of s f) in
      ap (λ (o : Option ℕ). option_or o (if_not_above u others (to f) (send_of r (to f)))) not_above_previous_moved
      ∙ ap (option_or (option_map to previous)) not_above_send_moved
      ∙ or_moved to previous (if_not_above t claimed f (send_of s f))

  -- verdicts
  module _ (least other_least : List Pair) (same : pair_at least f ≡ pair_at other_least (to f)) where
    pub verdict_kept : verdict_on u others other_least (to f) ≡ moved_verdict to (verdict_on t claimed least f)
    verdict_kept =
        let own = pair_at claimed f in
        let first = first_not_above t claimed f in
        let by : Pair → Pair → Option ℕ → Pair → Verdict = λ p floor o q. judged to (is_lt (stamp_cmp p floor)) (stamp_cmp p q) o q in
        ap (λ (o : Option ℕ). by (pair_at others (to f)) (clock_event_at u (to f)).floor o (pair_at other_least (to f))) first_moved
        ∙ ap (λ (p : Pair). by p (clock_event_at u (to f)).floor (option_map to first) (pair_at other_least (to f))) (sym (h.claims f shown))
        ∙ ap (λ (p : Pair). by own p (option_map to first) (pair_at other_least (to f))) same_floor
        ∙ ap (λ (q : Pair). by own (clock_event_at t f).floor (option_map to first) q) (sym same)
        ∙ judged_moved to (is_lt (stamp_cmp own (clock_event_at t f).floor)) (stamp_cmp own (pair_at least f)) first (pair_at least f)

    rollover_ahead_kept : (full : ℕ) → RollsOverAhead t claimed least full f → RollsOverAhead u others other_least full (to f)
    rollover_ahead_kept full rolls = record {
      rolls_over = rollover_kept full rolls.rolls_over;
      ahead = verdict_kept ∙ ap (moved_verdict to) rolls.ahead ∙ ap (λ (p : Pair). verdict.Ahead p) same;
    }

module _ (t u : ClockEvents) (claimed others least other_least : List Pair) (to back : ℕ → ℕ) (h : IsReorderedTrace t u claimed others to back)
    (is_least : IsLeastFeasible t least) (is_other : IsLeastFeasible u other_least) (full f : ℕ) (exists : f < length t) where
  same_least : pair_at least f ≡ pair_at other_least (to f)
  same_least = clock_reordering_keeps_least t u to back h.events least other_least is_least is_other f (omega (arith, exists, skeleton_size t))

  rollover_ahead_returned : RollsOverAhead u others other_least full (to f) → RollsOverAhead t claimed least full f
  rollover_ahead_returned rolls =
      let there = h.events.links.back_here f (omega (arith, exists, skeleton_size t)) in
      let same : pair_at other_least (to f) ≡ pair_at least (back (to f)) = sym same_least ∙ ap (λ (x : ℕ). pair_at least x) (sym there) in
      subst (RollsOverAhead t claimed least full) there
      (rollover_ahead_kept u t others claimed back to (turned_trace t u claimed others to back h) (to f) (moved_exists t u claimed others to back h f exists)
      other_least least same full rolls)

  finding_kept : (found : Finding) → NamesFinding t claimed least full f found → NamesFinding u others other_least full (to f) (moved_finding to found)
  finding_kept RolledOver rolls = rollover_ahead_kept t u claimed others to back h f exists least other_least same_least full rolls
  finding_kept (Judged judged) (is, not_rolled_over) = (
    ap (moved_verdict to) is ∙ sym (verdict_kept t u claimed others to back h f exists least other_least same_least),
    λ rolls. not_rolled_over (rollover_ahead_returned rolls),
  )

pub reordering_keeps_verdicts : ReorderingKeepsVerdicts
reordering_keeps_verdicts t u claimed others least other_least to back h is_least is_other f exists =
    verdict_kept t u claimed others to back h f exists least other_least
    (same_least t u claimed others least other_least to back h is_least is_other 0 f exists)

pub reordering_keeps_findings : ReorderingKeepsFindings
reordering_keeps_findings t u claimed others least other_least to back h is_least is_other full f found exists names =
    finding_kept t u claimed others least other_least to back h is_least is_other full f exists found names

-- causes
module _ (t u : ClockEvents) (claimed others : List Pair) (to back : ℕ → ℕ) (h : IsReorderedTrace t u claimed others to back) (full f : ℕ) (exists : f < length t)
    (answer : Causes) (names : NamesCauses t claimed full f answer) where
  behind_moved : IsBehind t claimed f ↔ IsBehind u others (to f)
  behind_moved =
      let floor = h.events.floor f exists in
      let own = h.claims f (omega (arith, exists, skeleton_size t)) in (
        λ behind. subst (λ (p : Pair). IsBelow p (clock_event_at u (to f)).floor) own (subst (IsBelow (pair_at claimed f)) (sym floor) behind),
        λ behind. subst (IsBelow (pair_at claimed f)) floor (subst (λ (p : Pair). IsBelow p (clock_event_at u (to f)).floor) (sym own) behind),
      )

  ahead_returned : (p : Pair) → IsAheadOf u others full (to f) p → IsAheadOf t claimed full f p
  ahead_returned p ahead =
      subst (λ (k : ℕ). IsAheadOf t claimed full k p) (h.events.links.back_here f (omega (arith, exists, skeleton_size t)))
      (ahead_kept u t others claimed back to (turned_trace t u claimed others to back h) (to f) (moved_exists t u claimed others to back h f exists) full p ahead)

  -- the event that a rule names
  event_moved : (found : Option EventId) (direct there : Option ℕ) → ((d : EventId) → (found ≡ Some d) ↔ (direct ≡ Some d.0)) → there ≡ option_map to direct
      → (d : EventId) → (option_map (moved_event to) found ≡ Some d) ↔ (there ≡ Some d.0)
  event_moved found direct there named moved d =
      let same : place_of (option_map (moved_event to) found) ≡ there =
      place_moved found ∙ ap (option_map to) (place_named found direct named) ∙ sym moved in
      (λ is. sym same ∙ (placed (option_map (moved_event to) found) d).0 is, λ is. (placed (option_map (moved_event to) found) d).1 (same ∙ is))
    where
      place_moved : (o : Option EventId) → place_of (option_map (moved_event to) o) ≡ option_map to (place_of o)
      place_moved None = refl
      place_moved (Some e) = refl

  causes_kept : NamesCauses u others full (to f) (moved_causes to answer)
  causes_kept =
      names_each u others full (to f) (moved_exists t u claimed others to back h f exists) (moved_causes to answer)
      (λ is. behind_moved.0 ((names Behind).0 is), λ behind. (names Behind).1 (behind_moved.1 behind))
      (event_moved answer.not_above_previous (if_not_above t claimed f (previous_of (clock_skeleton t) f))
      (if_not_above u others (to f) (previous_of (clock_skeleton u) (to f)))
      (λ d. names (NotAbovePrevious d)) (not_above_previous_moved t u claimed others to back h f exists))
      (event_moved answer.not_above_send (if_not_above t claimed f (send_of (clock_skeleton t) f))
      (if_not_above u others (to f) (send_of (clock_skeleton u) (to f)))
      (λ d. names (NotAboveSend d)) (not_above_send_moved t u claimed others to back h f exists))
      (λ p. (
        λ is. ahead_kept t u claimed others to back h f exists full p ((names (Ahead p)).0 is),
        λ ahead. (names (Ahead p)).1 (ahead_returned p ahead),
      ))

pub reordering_keeps_causes : ReorderingKeepsCauses
reordering_keeps_causes t u claimed others to back h full f answer exists names =
    causes_kept t u claimed others to back h full f exists answer names

-- skews
module _ (s t : Skeleton) (to back : ℕ → ℕ) (h : IsReordering s t to back) (told other_told : ℕ → Bool) (same_told : KeepsTold s to told other_told) (a b c d : ℕ) (from_node : IsSameNode s t to a c) (to_node : IsSameNode s t to b d) where
  message_kept : (e f : ℕ) → IsMessage s told a b e f → IsMessage t other_told c d (to e) (to f)
  message_kept e f message =
      let sent = message.sent.send in
      let exists : f < length s = sent.exists in
      let earlier : e < f = sent.earlier in
      record {
        sent = record {
          send = h.there.send e f sent;
          told_at_send = same_told e (omega arith) ∙ message.sent.told_at_send;
          told_at_delivery = same_told f exists ∙ message.sent.told_at_delivery;
        };
        from_node = (from_node e (omega arith)).0 message.from_node;
        to_node = (to_node f exists).0 message.to_node;
      }

  message_exists : (e f : ℕ) → IsMessage s told a b e f → (e < length s) × (f < length s)
  message_exists e f message =
      let sent = message.sent.send in
      let exists : f < length s = sent.exists in
      let earlier : e < f = sent.earlier in
      (omega arith, exists)

module _ (s t : Skeleton) (to back : ℕ → ℕ) (h : IsReordering s t to back) (told other_told : ℕ → Bool) (same_told : KeepsTold s to told other_told) (a b c d : ℕ) (from_node : IsSameNode s t to a c) (to_node : IsSameNode s t to b d) where
  told_back : KeepsTold t back other_told told
  told_back e lt = sym (same_told (back e) (h.here.exists e lt)) ∙ ap other_told (h.back_there e lt)

  message_returned : (e f : ℕ) → IsMessage t other_told c d e f → IsMessage s told a b (back e) (back f)
  message_returned e f message =
      message_kept t s back to (turned s t to back h) other_told told told_back c d a b (same_node_turned s t to back h a c from_node)
      (same_node_turned s t to back h b d to_node) e f message

  there_exists : (e f : ℕ) → IsMessage t other_told c d e f → (e < length t) × (f < length t)
  there_exists e f message =
      message_exists t s back to (turned s t to back h) other_told told told_back c d a b (same_node_turned s t to back h a c from_node)
      (same_node_turned s t to back h b d to_node) e f message

  skew_kept : (skew : Skew) → IsSkewBefore s told (length s) a b skew → IsSkewBefore t other_told (length t) c d (moved_skew to skew)
  skew_kept skew is =
      let e = skew.send.0 in
      let f = skew.delivery.0 in
      let exist = message_exists s t to back h told other_told same_told a b c d from_node to_node e f is.message in
      let kept = message_kept s t to back h told other_told same_told a b c d from_node to_node e f is.message in
      record {
        before = h.there.exists f exist.1;
        message = kept;
        sent_at = is.sent_at ∙ sym (h.there.reading e exist.0);
        delivered_at = is.delivered_at ∙ sym (h.there.reading f exist.1);
        none_greater = λ x y lt message.
            let there = there_exists x y message in
            let reads = h.here.reading x there.0 in
            let read = h.here.reading y there.1 in
            let bound = is.none_greater (back x) (back y) (h.here.exists y there.1) (message_returned x y message) in
            omega arith;
        first = λ x y lt message.
            let there = there_exists x y message in
            let reads = h.here.reading x there.0 in
            let read = h.here.reading y there.1 in
            let at_node : IsEarlierAtNode t y (to f) =
            record { earlier = lt; exists = h.there.exists f exist.1; same_node = message.to_node ∙ sym kept.to_node } in
            let before = earlier_returned s t to back h y f exist.1 at_node in
            let bound = is.first (back x) (back y) before.earlier (message_returned x y message) in
            omega arith;
      }

  named_skew_kept : (answer : Option Skew) → NamesSkewBefore s told (length s) a b answer → NamesSkewBefore t other_told (length t) c d (option_map (moved_skew to) answer)
  named_skew_kept None none = λ x y lt message. none (back x) (back y) (h.here.exists y lt) (message_returned x y message)
  named_skew_kept (Some skew) is = skew_kept skew is

pub reordering_keeps_skews : ReorderingKeepsSkews
reordering_keeps_skews s t to back h told other_told same_told a b c d from_node to_node answer is =
    named_skew_kept s t to back h told other_told same_told a b c d from_node to_node answer is

-- what an event is given depends on what those before it claim
module _ (log other : LogInOrder) (to back : ℕ → ℕ) (clocks : IsClockReordering (clocks_of log) (clocks_of other) to back) (k : ℕ)
    (exists : k < length (clocks_of log)) (carried : carried_of other (to k) ≡ carried_of log k)
    (before : (d : ℕ) → d < k → pair_at (claimed_of log) d ≡ pair_at (claimed_of other) (to d)) where
  pub given_alike : given_at (clocks_of other) (seen_of other (to k)) (to k) ≡ given_at (clocks_of log) (seen_of log k) k
  given_alike =
      let t = clocks_of log in
      let u = clocks_of other in
      let shown : k < length (clock_skeleton t) = omega (arith, exists, skeleton_size t) in
      let send = send_of (clock_skeleton t) k in
      let told = carried_of log k in
      given_moved t u (seen_of log k) (seen_of other (to k)) to back clocks k exists
      (λ d direct.
      let less = direct_earlier (clock_skeleton t) d k direct in
      same_seen t u (claimed_of log) (claimed_of other) to back clocks.links (length-claimed_of log ∙ sym (length-clocks_of log))
      (length-claimed_of other ∙ sym (length-clocks_of other)) send told
      (send_exists (clock_skeleton t) (clock_skeleton u) to back clocks.links k shown) d (omega arith) (before d less)
      ∙ ap (λ (o : Option ℕ). pair_at (seen_pairs (claimed_of other) o told) (to d))
      (sym (send_moved (clock_skeleton t) (clock_skeleton u) to back clocks.links k shown))
      ∙ ap (λ (c : Option Pair). pair_at (seen_pairs (claimed_of other) (send_of (clock_skeleton u) (to k)) c) (to d)) (sym carried))

-- logs in order
module _ (log other : LogInOrder) (to back : ℕ → ℕ) (h : TellTheSame log other to back) where
  pub seen : (k : ℕ) → k < length log.order → k < length (skeleton_of log)
  seen k lt = let size = length-skeleton_in log.events log.order h.ordered.causal in omega arith

  pub read : (k : ℕ) → k < length log.order → k < length (clocks_of log)
  read k lt = omega (arith, seen k lt, clock_events_size (rules_in log.receives log.events log.order) (skeleton_of log))

  pub moved_there : (k : ℕ) → k < length log.order
      → (moved_position log other to k < length other.order) × (place_at other.order (moved_position log other to k) ≡ to (place_at log.order k))
  moved_there k lt =
      place_of_index other.events other.order h.other_ordered.causal (to (place_at log.order k))
      (h.events.there.exists (place_at log.order k) (place_exists log.events log.order h.ordered.causal k lt))

  pub same_rule : (k : ℕ) → k < length log.order
      → own_at (rules_in other.receives other.events other.order) (moved_position log other to k) ≡ own_at (rules_in log.receives log.events log.order) k
  same_rule k lt =
      ap (λ receives. own_at (rules_in receives other.events other.order) (moved_position log other to k)) h.receives
      ∙ own_kept log.events other.events to h.events.there h.other_ordered.messages.once log.order other.order h.ordered.causal
      h.other_ordered.causal log.receives k lt

-- their skeletons are reordered
pub skeletons_moved : (log other : LogInOrder) (to back : ℕ → ℕ) → TellTheSame log other to back
    → IsReordering (skeleton_of log) (skeleton_of other) (moved_position log other to) (moved_position other log back)
skeletons_moved log other to back h =
    skeletons_reordered log.events other.events to back h.events h.ordered.messages.once h.other_ordered.messages.once log.order other.order
    h.ordered.causal h.other_ordered.causal

-- and so are they as clock rules read them
pub clocks_moved : (log other : LogInOrder) (to back : ℕ → ℕ) → TellTheSame log other to back
    → IsClockReordering (clocks_of log) (clocks_of other) (moved_position log other to) (moved_position other log back)
clocks_moved log other to back h =
    rules_are_reordered (rules_in log.receives log.events log.order) (rules_in other.receives other.events other.order) (skeleton_of log)
    (skeleton_of other) (moved_position log other to) (moved_position other log back) (skeletons_moved log other to back h)
    (sends_are_named log.events log.order h.ordered.causal) (sends_are_named other.events other.order h.other_ordered.causal) h.receives
    (λ k lt. same_rule log other to back h k (omega (arith, lt, length-skeleton_in log.events log.order h.ordered.causal)))

-- the stamps that they claim
module _ (log other : LogInOrder) (to back : ℕ → ℕ) (h : TellTheSame log other to back) where
  abbrev there : ℕ → ℕ
  there = moved_position log other to

  pub same_carried : (k : ℕ) → k < length log.order → carried_of other (there k) ≡ carried_of log k
  same_carried k lt =
      ap (λ (e : ℕ). (event_at other.events e).carried) (moved_there log other to back h k lt).1
      ∙ h.events.there.carried (place_at log.order k) (place_exists log.events log.order h.ordered.causal k lt)

  pub same_told : (k : ℕ) → k < length log.order → stamp_told other (there k) ≡ stamp_told log k
  same_told k lt =
      ap (λ (e : ℕ). (event_at other.events e).has_stamp) (moved_there log other to back h k lt).1
      ∙ h.events.there.has_stamp (place_at log.order k) (place_exists log.events log.order h.ordered.causal k lt)

  pub claims_size : length (claimed_of log) ≡ length (clocks_of log)
  claims_size = length-claimed_of log ∙ sym (length-clocks_of log)

  pub other_claims_size : length (claimed_of other) ≡ length (clocks_of other)
  other_claims_size = length-claimed_of other ∙ sym (length-clocks_of other)

  abbrev pub IsSameClaim : ℕ → Type 0
  IsSameClaim k = pair_at (claimed_of log) k ≡ pair_at (claimed_of other) (there k)

  told_claim : (k : ℕ) → k < length log.order → stamp_told log k ≡ true → IsSameClaim k
  told_claim k lt is_told =
      let at = moved_there log other to back h k lt in
      claimed_at log.events log.order k lt
      ∙ sym (h.claims (place_at log.order k) (place_exists log.events log.order h.ordered.causal k lt) is_told)
      ∙ ap (λ (e : ℕ). (event_at other.events e).stamp) (sym at.1) ∙ sym (claimed_at other.events other.order (there k) at.0)

  -- a stamp that is given depends on those before it
  given_claim : (k : ℕ) → k < length log.order → stamp_told log k ≡ false → ((d : ℕ) → d < k → IsSameClaim d) → IsSameClaim k
  given_claim k lt untold before =
      let at = moved_there log other to back h k lt in
      h.ordered.given k lt untold
      ∙ sym (given_alike log other there (moved_position other log back) (clocks_moved log other to back h) k (read log other to back h k lt)
      (same_carried k lt) before)
      ∙ sym (h.other_ordered.given (there k) at.0 (same_told k lt ∙ untold))

  claims_below : (n k : ℕ) → k < n → k < length log.order → IsSameClaim k
  claims_below zero k lt within = absurd (omega (arith, lt))
  claims_below (suc n) k lt within = elim (cases_Bool (stamp_told log k)) [
    | inl told ↦ told_claim k within told
    | inr untold ↦ given_claim k within untold (λ d less. claims_below n d (omega arith) (omega arith))
  ]

  pub same_claim : (k : ℕ) → k < length log.order → IsSameClaim k
  same_claim k lt = claims_below (suc k) k (omega arith) lt

pub logs_are_reordered_traces : LogsAreReorderedTraces
logs_are_reordered_traces log other to back h = record {
  events = clocks_moved log other to back h;
  claims = λ k exists.
      let size = length-skeleton_in log.events log.order h.ordered.causal in
      let seen = skeleton_size (clocks_of log) ∙ clock_events_size (rules_in log.receives log.events log.order) (skeleton_of log) in
      same_claim log other to back h k (omega (arith, exists, size, seen));
}

-- so the events that correspond claim equal stamps, and have equal least ones
module _ (log other : LogInOrder) (to back : ℕ → ℕ) (h : TellTheSame log other to back) where
  claims_seen : (k : ℕ) → k < length (skeleton_of log) → k < length (clock_skeleton (clocks_of log))
  claims_seen k lt = omega (arith, lt, skeleton_size (clocks_of log), clock_events_size (rules_in log.receives log.events log.order) (skeleton_of log))

  pub claims_moved : HaveEqualPairs (skeleton_of log) (moved_position log other to) (claimed_of log) (claimed_of other)
  claims_moved k lt = (logs_are_reordered_traces log other to back h).claims k (claims_seen k lt)

  pub least_moved : HaveEqualPairs (skeleton_of log) (moved_position log other to) log.least other.least
  least_moved k lt =
      clock_reordering_keeps_least (clocks_of log) (clocks_of other) (moved_position log other to) (moved_position other log back)
      (logs_are_reordered_traces log other to back h).events log.least other.least h.ordered.least h.other_ordered.least k (claims_seen k lt)

-- the other way round
pub turned_log : (log other : LogInOrder) (to back : ℕ → ℕ) → TellTheSame log other to back → TellTheSame other log back to
turned_log log other to back h = record {
  receives = sym h.receives;
  ordered = h.other_ordered;
  other_ordered = h.ordered;
  events = record { there = h.events.here; here = h.events.there; back_here = h.events.back_there; back_there = h.events.back_here };
  claims = λ f lt told.
      sym (h.claims (back f) (h.events.here.exists f lt) (h.events.here.has_stamp f lt ∙ told))
      ∙ ap (λ (e : ℕ). (event_at other.events e).stamp) (h.events.back_there f lt);
}
