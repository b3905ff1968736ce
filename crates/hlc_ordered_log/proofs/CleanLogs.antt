-- Logs whose claimed stamps are the least ones.
use Rattle.std.proofs.Common.{Bool, true, false, cond, ◌⊎◌, inl, inr, Option, Some, None, ◌≡◌, ◌∙◌, ℕ, zero, suc, ◌+◌, ◌^◌, ◌<◌, List, [], ◌∷◌, length, map, arith, refl, subst, sym, ap}
use Rattle.std.specs.Prelude.{IfSome, count_by, if◌then◌else◌, slice_index_or, slice_set}
use Rattle.std.proofs.lemmas.Bool.{cases_Bool, cases_lt}
use Rattle.std.proofs.lemmas.List.{ext_get_or, get_or-map, get_or_past, length-map, map-append, set-get_or}
use Rattle.hlc_stamp.specs.Order.{Pair, zero_pair}
use Rattle.hlc_causality.specs.Assignment.{pair_at}
use Rattle.hlc_causality.specs.ClockEvents.{ClockEvents, clock_skeleton}
use Rattle.hlc_causality.specs.declared.event_rule.EventRule.{EventRule}
use Rattle.hlc_causality.specs.ReceiveEvents.{ClockRules}
use Rattle.hlc_causality.specs.Feasible.{IsLeastFeasible, IsLeastFeasibleAt}
use Rattle.hlc_causality.proofs.Predecessors.{direct_earlier}
use Rattle.hlc_execution.specs.Rules.{HasSmallFloor, HaveSmallFloors}
use Rattle.hlc_log.specs.CausalOrder.{place_at as order_place}
use Rattle.hlc_log.specs.Events.{event_at, own_rule}
use Rattle.hlc_log.specs.OrderSkeleton.{rules_in}
use Rattle.hlc_log.proofs.OwnRules.{own_floor_is_small}
use Rattle.hlc_causality.specs.Places.{places_below}
use Rattle.hlc_causality.proofs.LeastFeasible.{each_from_least_feasible}
use Rattle.hlc_causality.proofs.PlacesBelow.{length-places_below, place_at}
use Rattle.hlc_verdict.specs.declared.verdict.Verdict.{Verdict}
use Rattle.hlc_verdict.specs.declared.verdict.Verdict.TheVariants as verdict
use Rattle.hlc_causes.specs.Causes.{NamesCauses, NamesFinding, RollsOver, no_causes}
use Rattle.hlc_causes.specs.Given.{given_at}
use Rattle.hlc_causes.proofs.Given.{least_is_given}
use Rattle.hlc_causes.proofs.NextEvents.{counter_is_small}
use Rattle.hlc_causes.specs.Verdicts.{verdict_on}
use Rattle.hlc_causes.specs.declared.answers.Finding.{Finding}
use Rattle.hlc_causes.specs.declared.answers.Finding.TheVariants.{RolledOver, Judged}
use Rattle.hlc_causes.proofs.CauseLaws.{kept_names_none, least_if_right, least_like, rule_or_cause}
use Rattle.hlc_causes.proofs.Disorder.{some_is_so}
use Rattle.hlc_causes.proofs.Written.{rule_is_kept, rule_is_unique, same_stamps}
use Rattle.hlc_causes.specs.Seen.{seen, wrong_among}
use Rattle.hlc_ordered_log.specs.Counts.{AreCounted, counts_of, no_findings, told_count, with_finding}
use Rattle.hlc_ordered_log.specs.Found.{FindsAt, IsCauseAt}
use Rattle.hlc_ordered_log.specs.InOrder.{IsCarriedRightly, IsInOrder, LogInOrder, carried_of, claimed_of, clocks_of, event_in_order, seen_of, skeleton_of, stamp_told}
use Rattle.hlc_ordered_log.specs.Laws.{NoCausesAreLeast}
use Rattle.hlc_ordered_log.proofs.Ordering.{in_range_at, order_len}
use Rattle.hlc_ordered_log.proofs.SamePlaces.{count_push}
use Rattle.hlc_log.proofs.OrderSkeletons.{length-skeleton_in, own_in, place_exists}
use Rattle.hlc_ordered_log.proofs.EventsInOrder.{length-claimed_of, length-clocks_of}
use Rattle.hlc_causality.specs.Causality.{IsDirectPredecessor, IsSendOf}
use Rattle.hlc_causality.specs.FollowedClockChains.{is_same_pair}
use Rattle.hlc_causality.specs.Predecessors.{send_of}
use Rattle.hlc_causality.proofs.ClockEvents.{skeleton_size}
use Rattle.hlc_causality.proofs.PredecessorsFound.{send_found}
use Rattle.hlc_ordered_log.specs.declared.counts.Counts.{Counts}
use Rattle.hlc_ordered_log.proofs.Counting.{counts_push}

-- Least where a stamp is told, and else nothing
abbrev least_if : Bool → Option Finding
least_if told = if told then Some (Judged verdict.Least) else None

-- so many findings of Least
all_least : (told : ℕ → Bool) (n : ℕ) → counts_of (map (λ (k : ℕ). least_if (told k)) (places_below n)) ≡ record no_findings { least = count_by told (places_below n) }
all_least told zero = refl
all_least told (suc n) =
    let each : ℕ → Option Finding = λ k. least_if (told k) in
    let before = count_by told (places_below n) in
    ap counts_of (map-append each (places_below n) (n ∷ []))
    ∙ counts_push (map each (places_below n)) (each n)
    ∙ ap (λ (counts : Counts). with_finding counts (each n)) (all_least told n)
    ∙ one_more before (told n)
    ∙ ap (λ (k : ℕ). record no_findings { least = k }) (sym (count_push told (places_below n) n))
  where
    one_more : (before : ℕ) (test : Bool) → with_finding (record no_findings { least = before }) (least_if test) ≡ record no_findings { least = before + cond test 1 0 }
    one_more before true = refl
    one_more before false = let same : before ≡ before + 0 = omega arith in ap (λ (k : ℕ). record no_findings { least = k }) same

module _ (t : ClockEvents) (claimed : List Pair) (is_least : IsLeastFeasible t claimed) (full : ℕ) where
  pub none_is_named : (k : ℕ) → k < length t → NamesCauses t claimed full k no_causes
  none_is_named k exists = kept_names_none t claimed full k exists (rule_is_kept t claimed k full (each_from_least_feasible t claimed is_least k exists))

  verdict_is_least : (k : ℕ) → k < length t → verdict_on t claimed claimed k ≡ verdict.Least
  verdict_is_least k exists =
      let rule = each_from_least_feasible t claimed is_least k exists in
      least_if_right t claimed claimed full is_least k exists (record { same = refl; fit = rule.feasible })

  pub finding_is_least : (k : ℕ) → k < length t → (found : Finding) → NamesFinding t claimed claimed full k found → found ≡ Judged verdict.Least
  finding_is_least k exists RolledOver rolls =
      let both : verdict.Least ≡ verdict.Ahead (pair_at claimed k) = sym (verdict_is_least k exists) ∙ rolls.ahead in
      absurd cc
  finding_is_least k exists (Judged judged) names = ap (λ (v : Verdict). Judged v) (names.0 ∙ verdict_is_least k exists)

-- where each message carried what its send claims, each event saw the stamps that are claimed
right_is_claimed : (claimed : List Pair) (send : Option ℕ) (carried : Option Pair) → wrong_among claimed send carried ≡ None
    → ((d : ℕ) → send ≡ Some d → d < length claimed) → seen claimed send carried ≡ claimed
right_is_claimed claimed None None right exist = refl
right_is_claimed claimed None (Some p) right exist = refl
right_is_claimed claimed (Some d) None right exist = refl
right_is_claimed claimed (Some d) (Some p) right exist = by_test (cases_Bool (is_same_pair p (pair_at claimed d)))
  where
    by_test : (is_same_pair p (pair_at claimed d) ≡ true) ⊎ (is_same_pair p (pair_at claimed d) ≡ false) → slice_set claimed d p ≡ claimed
    by_test (inl test) = ap (slice_set claimed d) (same_stamps p (pair_at claimed d) test) ∙ set-get_or claimed d zero_pair
    by_test (inr test) =
        let wrong : ◌≡◌ {A = Option ℕ} (Some d) None = sym (ap (λ (b : Bool). if b then None else Some d) test) ∙ right in
        absurd cc

pub seen_is_claimed : (log : LogInOrder) → IsInOrder log → IsCarriedRightly log → (k : ℕ) → k < length (clocks_of log) → seen_of log k ≡ claimed_of log
seen_is_claimed log ordered right k lt =
    let s = clock_skeleton (clocks_of log) in
    let there : k < length s = omega (arith, lt, skeleton_size (clocks_of log)) in
    let sizes = length-claimed_of log in
    let within : k < length log.order =
    omega (arith, lt, length-clocks_of log, length-skeleton_in log.events log.order ordered.causal) in
    right_is_claimed (claimed_of log) (send_of s k) (carried_of log k) (right k within) (λ d is.
    let earlier = (some_is_so (λ x. IsSendOf s x k) (send_of s k) (send_found s k there) d is).earlier in
    omega (arith, earlier, lt, sizes, length-clocks_of log))

-- so it is of a log
module _ (log : LogInOrder) (ordered : IsInOrder log) (same : claimed_of log ≡ log.least) where
  pub claims_are_least : IsLeastFeasible (clocks_of log) (claimed_of log)
  claims_are_least = subst (IsLeastFeasible (clocks_of log)) (sym same) ordered.least

-- and all that are told are counted least
module _ (log : LogInOrder) (ordered : IsInOrder log) (same : claimed_of log ≡ log.least) (right : IsCarriedRightly log) (full : ℕ) where
  read_there : (k : ℕ) → k < length log.order → k < length (clocks_of log)
  read_there k lt = omega (arith, lt, length-clocks_of log, length-skeleton_in log.events log.order ordered.causal)

  least_found : (k : ℕ) → k < length log.order → (found : Option Finding) → FindsAt log full k found → found ≡ least_if (stamp_told log k)
  least_found k lt None untold = sym (ap least_if untold)
  least_found k lt (Some found) (told, names) =
      ap (λ (x : Finding). Some x)
      (finding_is_least (clocks_of log) (claimed_of log) (claims_are_least log ordered same) full k (read_there k lt) found
      (subst (λ (least : List Pair). NamesFinding (clocks_of log) (claimed_of log) least full k found) (sym same)
      (subst (λ (pairs : List Pair). NamesFinding (clocks_of log) pairs log.least full k found) (seen_is_claimed log ordered right k (read_there k lt)) names)))
      ∙ sym (ap least_if told)

  pub all_are_least : (counts : Counts) → AreCounted log full counts → counts ≡ record no_findings { least = told_count log }
  all_are_least counts (findings, are, is) =
      let each : ℕ → Option Finding = λ k. least_if (stamp_told log k) in
      let places = places_below (length log.order) in
      let size = length-places_below (length log.order) in
      is
      ∙ ap counts_of (ext_get_or None findings (map each places) (are.one_each ∙ sym size ∙ sym (length-map places each)) (λ k lt.
      let count = are.one_each in
      let within : k < length log.order = omega arith in
      least_found k within (slice_index_or findings k None) (are.each k within)
      ∙ ap each (sym (place_at (length log.order) k within))
      ∙ sym (get_or-map each places k 0 None (omega arith))))
      ∙ all_least (stamp_told log) (length log.order)

-- all claimed stamps are the least ones, if each that is told is so where those of its direct predecessors are
module _ (log : LogInOrder) (ordered : IsInOrder log) (right : IsCarriedRightly log) where
  abbrev t : ClockEvents
  t = clocks_of log

  abbrev pub IsLeastThere : ℕ → Type 0
  IsLeastThere k = pair_at (claimed_of log) k ≡ pair_at log.least k

  abbrev pub AreLeastBefore : ℕ → Type 0
  AreLeastBefore k = (d : ℕ) → IsDirectPredecessor (clock_skeleton t) d k → IsLeastThere d

  exists_there : (k : ℕ) → k < length log.order → k < length t
  exists_there k lt = omega (arith, lt, length-clocks_of log, length-skeleton_in log.events log.order ordered.causal)

  pub seen_here : (k : ℕ) → k < length log.order → seen_of log k ≡ claimed_of log
  seen_here k within = seen_is_claimed log ordered right k (exists_there k within)

  abbrev rules : ClockRules
  rules = rules_in log.receives log.events log.order

  -- floors are small, so no c of a least stamp is too great
  small_floors : HaveSmallFloors rules
  small_floors k = elim (cases_lt k (length log.order)) [
    | inl lt ↦
        subst (λ (rule : Option EventRule). IfSome rule HasSmallFloor) (sym (own_in log.events log.order ordered.causal log.receives k lt))
        (own_floor_is_small log.receives (event_in_order log.events log.order k)
        (in_range_at log.events ordered.in_range (order_place log.order k) (place_exists log.events log.order ordered.causal k lt)))
    | inr past ↦
        let size = length-map log.order (λ (e : ℕ). own_rule log.receives (event_at log.events e)) in
        subst (λ (rule : Option EventRule). IfSome rule HasSmallFloor) (sym (get_or_past rules.own k None (omega arith))) tt
  ]

  small_counter : (k : ℕ) → k < length log.order → (pair_at log.least k).c < 2 ^ 32
  small_counter k lt =
      let size = length-skeleton_in log.events log.order ordered.causal in
      let places = order_len log.events log.order ordered.causal in
      let few = ordered.few in
      let most = counter_is_small rules (skeleton_of log) log.least ordered.least small_floors k (omega arith) in
      omega arith

  given_is_least : (k : ℕ) → k < length log.order → AreLeastBefore k → stamp_told log k ≡ false → IsLeastThere k
  given_is_least k within before untold =
      ordered.given k within untold ∙ ap (λ (pairs : List Pair). given_at t pairs k) (seen_here k within)
      ∙ least_is_given t (claimed_of log) k (exists_there k within) log.least ordered.least before (small_counter k within)

  module _ (told_is : (k : ℕ) → k < length log.order → stamp_told log k ≡ true → AreLeastBefore k → IsLeastThere k) where
    least_below : (n k : ℕ) → k < n → k < length log.order → IsLeastThere k
    least_below zero k lt within = absurd (omega (arith, lt))
    least_below (suc n) k lt within =
        let before : AreLeastBefore k =
        λ d direct. (let less = direct_earlier (clock_skeleton t) d k direct in least_below n d (omega arith) (omega arith)) in
        elim (cases_Bool (stamp_told log k)) [
          | inl told ↦ told_is k within told before
          | inr untold ↦ given_is_least k within before untold
        ]

    pub claims_are_all_least : claimed_of log ≡ log.least
    claims_are_all_least =
        let size = ordered.least.feasible.one_each in
        let sizes = length-claimed_of log in
        let read = length-clocks_of log in
        let places = length-skeleton_in log.events log.order ordered.causal in
        ext_get_or zero_pair (claimed_of log) log.least (omega arith) (λ k lt. least_below (suc k) k (omega arith) (omega arith))

-- so are they where there is no cause, and no told stamp rolls over
module _ (log : LogInOrder) (full : ℕ) (ordered : IsInOrder log) (right : IsCarriedRightly log) (none : (k : ℕ) → k < length log.order → ¬ IsCauseAt log full k)
    (rolled : (k : ℕ) → k < length log.order → stamp_told log k ≡ true → ¬ RollsOver (clocks_of log) (seen_of log k) full k) where
  told_is_least : (k : ℕ) → k < length log.order → stamp_told log k ≡ true → AreLeastBefore log ordered right k → IsLeastThere log ordered right k
  told_is_least k within told before =
      let t = clocks_of log in
      let own = pair_at (claimed_of log) k in
      let exists : k < length t = omega (arith, within, length-clocks_of log, length-skeleton_in log.events log.order ordered.causal) in
      elim (rule_or_cause t (seen_of log k) full k exists) [
        | inl rule ↦
            rule_is_unique t log.least k own (pair_at log.least k)
            (least_like t (claimed_of log) log.least k before own
            (subst (λ (pairs : List Pair). IsLeastFeasibleAt t pairs k (pair_at pairs k)) (seen_here log ordered right k within) rule))
            (each_from_least_feasible t log.least ordered.least k exists)
        | inr reason ↦
            elim reason [
              | inl cause ↦ absurd (none k within (cause.0, (told, cause.1)))
              | inr rolls ↦ absurd (rolled k within told rolls)
            ]
      ]

pub no_causes_are_least : NoCausesAreLeast
no_causes_are_least log full ordered right none rolled =
    claims_are_all_least log ordered right (told_is_least log full ordered right none rolled)
