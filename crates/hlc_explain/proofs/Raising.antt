-- What the floor of an event raised lies in its future.
use Rattle.std.proofs.Common.{◌≡◌, ◌≢◌, ◌∙◌, ◌↔◌, ◌⊎◌, Bool, true, false, ℕ, zero, suc, ◌<◌, inl, inr, List, length, Option, Some, None, arith, refl, subst, sym, ap}
use Rattle.std.specs.Ordering.{is_lt}
use Rattle.std.proofs.lemmas.Bool.{cases_Bool, cases_eq}
use Rattle.std.proofs.lemmas.Bool.Decides.{nat_tests}
use Rattle.std.proofs.lemmas.List.{get_or-set_other, get_or-set_same, length-set}
use Rattle.hlc_stamp.specs.Order.{IsBelow, Pair, stamp_cmp, zero_pair}
use Rattle.hlc_causality.specs.Assignment.{pair_at}
use Rattle.hlc_causality.specs.Causality.{HappenedBefore, IsDirectPredecessor, IsPrevious, IsSendOf, Skeleton}
use Rattle.hlc_causality.specs.ClockEvents.{ClockEvent, ClockEvents, clock_event_at, clock_skeleton}
use Rattle.hlc_causality.specs.Feasible.{IsLeastFeasible}
use Rattle.hlc_causality.specs.LeastFeasible.{greater, greater_next, least_feasible, least_feasible_at, next_pair}
use Rattle.hlc_causality.specs.Past.{IsInPast}
use Rattle.hlc_causality.specs.Predecessors.{previous_of, send_of}
use Rattle.hlc_causality.proofs.ClockEvents.{clock_skeleton_at, skeleton_size}
use Rattle.hlc_causality.proofs.Feasible.{least_feasible_at_is}
use Rattle.hlc_causality.proofs.LeastFeasible.{each_from_least_feasible, least_feasible_is_computed, least_feasible_is_unique}
use Rattle.hlc_causality.proofs.Pairs.{at_most_antisymm}
use Rattle.hlc_causality.proofs.Past.{direct_happened_before, past_then}
use Rattle.hlc_causality.proofs.PlacesBelow.{contains_passing, passing_from_contains, passing_places_rise}
use Rattle.hlc_causality.proofs.Predecessors.{direct_earlier}
use Rattle.hlc_causality.proofs.PredecessorsFound.{Finds, previous_found, send_found}
use Rattle.hlc_causality.proofs.SameLinks.{IsSameLinks}
use Rattle.hlc_explain.specs.Taints.{TaintedAreFound, TaintedAreInfluenced, is_raised, least_without, without_floor}
use Rattle.hlc_explain.proofs.NamedLinks.{same_previous, same_send}
use Rattle.hlc_explain.proofs.Reaching.{past_is_earlier}

-- each least feasible pair is made from those of the direct predecessors
pub least_is_made : (t : ClockEvents) (f : ℕ) → f < length t → pair_at (least_feasible t) f ≡ least_feasible_at t (least_feasible t) f
least_is_made t f exists =
    let pairs = least_feasible t in
    let least = each_from_least_feasible t pairs (least_feasible_is_computed t) f exists in
    let made = least_feasible_at_is t pairs f exists in
    at_most_antisymm (pair_at pairs f) (least_feasible_at t pairs f) (least.least (least_feasible_at t pairs f) made.feasible)
    (made.least (pair_at pairs f) least.feasible)

module _ (t : ClockEvents) (e : ℕ) (here : e < length t) where
  abbrev u : ClockEvents
  u = without_floor t e

  abbrev s : Skeleton
  s = clock_skeleton t

  pub size_without : length u ≡ length t
  size_without = length-set t e _

  pub floor_there : (clock_event_at u e).floor ≡ zero_pair
  floor_there = ap (λ (x : ClockEvent). x.floor) (get_or-set_same t e _ _ here)

  pub same_elsewhere : (f : ℕ) → f ≢ e → clock_event_at u f ≡ clock_event_at t f
  same_elsewhere f ne = get_or-set_other t e f _ _ ne

  -- nothing of an event changes but its floor
  kept : {X : Type 0} (field : ClockEvent → X) → field (record (clock_event_at t e) { floor = zero_pair }) ≡ field (clock_event_at t e)
      → (f : ℕ) → field (clock_event_at t f) ≡ field (clock_event_at u f)
  kept field same f = elim (cases_eq f e) [
    | inr ne ↦ ap field (sym (same_elsewhere f ne))
    | inl is ↦ subst (λ x. field (clock_event_at t x) ≡ field (clock_event_at u x)) (sym is) (sym (ap field (get_or-set_same t e _ _ here) ∙ same))
  ]

  pub ticks_kept : (f : ℕ) → (clock_event_at t f).ticks ≡ (clock_event_at u f).ticks
  ticks_kept = kept (λ x. x.ticks) refl

  pub links_without : IsSameLinks s (clock_skeleton u)
  links_without = record {
    size = skeleton_size t ∙ sym size_without ∙ sym (skeleton_size u);
    node = λ f. ap (λ x. x.node) (clock_skeleton_at t f) ∙ kept (λ x. x.node) refl f ∙ sym (ap (λ x. x.node) (clock_skeleton_at u f));
    send = λ f. ap (λ x. x.send) (clock_skeleton_at t f) ∙ kept (λ x. x.send) refl f ∙ sym (ap (λ x. x.send) (clock_skeleton_at u f));
  }

  abbrev before : List Pair
  before = least_feasible t

  abbrev after : List Pair
  after = least_without t e

  -- what is made from pairs that stay is the same
  next_stays : (P : ℕ → Type 0) (f : ℕ) (link : Option ℕ) → Finds P link → ((d : ℕ) → P d → (pair_at after d ≡ pair_at before d) ⊎ HappenedBefore s e f)
      → ((ticks : Bool) (p : Pair) → greater_next ticks after p link ≡ greater_next ticks before p link) ⊎ HappenedBefore s e f
  next_stays P f None none stay = inl (λ ticks p. refl)
  next_stays P f (Some d) found stay = elim (stay d found) [
    | inl same ↦ inl (λ ticks p. ap (λ (q : Pair). greater p (next_pair ticks q)) same)
    | inr past ↦ inr past
  ]

  abbrev made_by : ClockEvent → List Pair → Option ℕ → Option ℕ → Pair
  made_by x pairs previous send = greater_next x.ticks pairs (greater_next x.ticks pairs x.floor previous) send

  stays_or_past : (n f : ℕ) → f < n → f < length t → (pair_at after f ≡ pair_at before f) ⊎ IsInPast s e f
  stays_or_past zero f lt exists = absurd (omega (arith, lt))
  stays_or_past (suc n) f lt exists = elim (cases_eq f e) [
    | inl same ↦ inr (inl (sym same))
    | inr ne ↦
        let there : f < length s = omega (arith, exists, skeleton_size t) in
        let also : f < length u = omega (arith, exists, size_without) in
        let earlier : (d : ℕ) → IsDirectPredecessor s d f → (pair_at after d ≡ pair_at before d) ⊎ HappenedBefore s e f = λ d direct.
        let less = direct_earlier s d f direct in
        elim (stays_or_past n d (omega (arith, lt, less)) (omega (arith, exists, less))) [
          | inl same ↦ inl same
          | inr past ↦ inr (past_then s e d f past (direct_happened_before s d f direct))
        ] in
        elim (next_stays (λ d. IsPrevious s d f) f (previous_of s f) (previous_found s f there) (λ d h. earlier d (inl h))) [
          | inr past ↦ inr (inr past)
          | inl previous ↦ elim (next_stays (λ d. IsSendOf s d f) f (send_of s f) (send_found s f there) (λ d h. earlier d (inr h))) [
            | inr past ↦ inr (inr past)
            | inl send ↦
                let x = clock_event_at t f in
                inl (
                least_is_made u f also
                ∙ ap (λ (y : ClockEvent). made_by y after (previous_of (clock_skeleton u) f) (send_of (clock_skeleton u) f)) (same_elsewhere f ne)
                ∙ ap (λ (d : Option ℕ). made_by x after d (send_of (clock_skeleton u) f)) (sym (same_previous s f there (clock_skeleton u) links_without))
                ∙ ap (λ (d : Option ℕ). made_by x after (previous_of s f) d) (sym (same_send s f there (clock_skeleton u) links_without))
                ∙ send x.ticks (greater_next x.ticks after x.floor (previous_of s f))
                ∙ ap (λ (p : Pair). greater_next x.ticks before p (send_of s f)) (previous x.ticks x.floor)
                ∙ sym (least_is_made t f exists)
                )
          ]
        ]
  ]

  module _ (pairs : List Pair) (least : IsLeastFeasible t pairs) where
    same_pairs : before ≡ pairs
    same_pairs = least_feasible_is_unique t before pairs (least_feasible_is_computed t) least

    stays_otherwise : (f : ℕ) → f < length t → (pair_at after f ≡ pair_at pairs f) ⊎ IsInPast s e f
    stays_otherwise f exists =
        subst (λ (ps : List Pair). (pair_at after f ≡ pair_at ps f) ⊎ IsInPast s e f) same_pairs (stays_or_past (suc f) f (omega arith) exists)

    -- the pairs of what comes earlier stay
    pub stays_before : (f : ℕ) → f < e → pair_at after f ≡ pair_at pairs f
    stays_before f lt = elim (stays_otherwise f (omega (arith, lt, here))) [
      | inl same ↦ same
      | inr past ↦ let late = past_is_earlier s e f past in absurd (omega arith)
    ]

-- the test of pairs is their order
pub below_tested : (p q : Pair) → (is_lt (stamp_cmp p q) ≡ true) ↔ IsBelow p q
below_tested p q = (λ test. grind (arith, nat_tests, test), λ below. grind (arith, nat_tests, below))

same_is_not_below : (p q : Pair) → p ≡ q → ¬ IsBelow p q
same_is_not_below p q same below =
    let itself : IsBelow q q = subst (λ (r : Pair). IsBelow r q) same below in grind (arith, itself)

pub raised_tells : (t : ClockEvents) (pairs : List Pair) (e f : ℕ) → (is_raised t pairs e f ≡ true) ↔ IsBelow (pair_at (least_without t e) f) (pair_at pairs f)
raised_tells t pairs e f = below_tested (pair_at (least_without t e) f) (pair_at pairs f)

pub not_raised : (t : ClockEvents) (pairs : List Pair) (e f : ℕ) → pair_at (least_without t e) f ≡ pair_at pairs f → is_raised t pairs e f ≡ false
not_raised t pairs e f same = elim (cases_Bool (is_raised t pairs e f)) [
  | inr test ↦ test
  | inl test ↦ absurd (same_is_not_below (pair_at (least_without t e) f) (pair_at pairs f) same ((raised_tells t pairs e f).0 test))
]

pub tainted_are_found : TaintedAreFound
tainted_are_found t pairs others e least =
    let u = without_floor t e in
    let same : least_without t e ≡ others = least_feasible_is_unique u (least_feasible u) others (least_feasible_is_computed u) least in (
      λ f. (
        λ among.
            let passes = passing_from_contains (is_raised t pairs e) (length t) f among in
            let below = (raised_tells t pairs e f).0 passes.1 in
            (passes.0, subst (λ (ps : List Pair). IsBelow (pair_at ps f) (pair_at pairs f)) same below),
        λ is.
            let below = subst (λ (ps : List Pair). IsBelow (pair_at ps f) (pair_at pairs f)) (sym same) is.1 in
            contains_passing (is_raised t pairs e) (length t) f is.0 ((raised_tells t pairs e f).1 below),
      ),
      passing_places_rise (is_raised t pairs e) (length t),
    )

pub tainted_are_influenced : TaintedAreInfluenced
tainted_are_influenced t pairs e f here least among =
    let passes = passing_from_contains (is_raised t pairs e) (length t) f among in
    elim (stays_otherwise t e here pairs least f passes.0) [
      | inr past ↦ past
      | inl same ↦ absurd (same_is_not_below (pair_at (least_without t e) f) (pair_at pairs f) same ((raised_tells t pairs e f).0 passes.1))
    ]
