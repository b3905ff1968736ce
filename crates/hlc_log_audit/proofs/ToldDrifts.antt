-- The drift of a node among its events whose reading is told, as a function and by what it is.
use Rattle.std.proofs.Common.{◌≡◌, ◌∙◌, Bool, true, false, cond, ℕ, zero, suc, ◌==◌, ◌<◌, ◌≤◌, inl, inr, List, [], ◌∷◌, length, get_or, Option, Some, None, arith, refl, subst, sym, ap}
use Rattle.std.specs.Prelude.{◌&&◌, MatchOption, nat_lt, option_map}
use Rattle.std.proofs.lemmas.Bool.{and_from, and_parts, cases_Bool, cases_eq, cases_order, eq-eqb, eqb-true}
use Rattle.std.proofs.lemmas.Bool.Decides.{nat_tests}
use Rattle.hlc_stamp.specs.Order.{Pair}
use Rattle.hlc_causality.specs.Causality.{Skeleton, skeleton_at}
use Rattle.hlc_causality.specs.ClockChain.{IsClockChainOf}
use Rattle.hlc_causality.specs.ClockEvents.{ClockEvents}
use Rattle.hlc_causality.specs.Forcing.{HasClockOrigin}
use Rattle.hlc_causality.specs.NodeEvents.{drift_at}
use Rattle.hlc_causality.proofs.ClockChains.{clock_chain_of_exists}
use Rattle.hlc_causality.proofs.FollowedClockChains.{clock_chain_is_followed}
use Rattle.hlc_explain.specs.ClockFindings.{clock_drift_at, clock_origin_of}
use Rattle.hlc_explain.specs.Findings.{further_ahead, furthest_before}
use Rattle.hlc_explain.specs.declared.answers.Drift.{Drift}
use Rattle.hlc_ordered_log.specs.InOrder.{clocks_of, reading_told, skeleton_of}
use Rattle.hlc_log_audit.specs.Laws.{DriftsOfToldReadings, ToldDriftsAreFound}
use Rattle.hlc_log_audit.specs.ToldDrift.{HasNoneTold, IsFurthestTold, IsToldOf, NamesToldDrift, furthest_told, told_drift}

-- origins
module _ (t : ClockEvents) (pairs : List Pair) (e : ℕ) (exists : e < length t) where
  pub origin_is : (origin : ℕ) → HasClockOrigin t pairs e origin → origin ≡ clock_origin_of t pairs e
  origin_is origin has = ap (λ (chain : List ℕ). get_or chain 0 e) (clock_chain_is_followed t pairs e (origin ∷ has.0) exists has.1)

  origin_of_chain : (chain : List ℕ) → IsClockChainOf t pairs e chain → HasClockOrigin t pairs e (clock_origin_of t pairs e)
  origin_of_chain [] h = absurd h
  origin_of_chain (origin ∷ rest) h = subst (HasClockOrigin t pairs e) (origin_is origin (rest, h)) (rest, h)

  pub origin_begins : HasClockOrigin t pairs e (clock_origin_of t pairs e)
  origin_begins = let chain = clock_chain_of_exists t pairs e exists in origin_of_chain chain.0 chain.1

-- whether an event is a node's and its reading is told
abbrev pub is_told_of : Skeleton → (told : ℕ → Bool) → (node n : ℕ) → Bool
is_told_of s told node n = ((skeleton_at s n).node == node) && told n

-- the first of greatest drift among such events before a place
record IsFurthestBefore (s : Skeleton) (told : ℕ → Bool) (pairs : List Pair) (node n e : ℕ) : Type 0 where
  before : e < n
  counted : is_told_of s told node e ≡ true
  none_greater : (d : ℕ) → d < n → is_told_of s told node d ≡ true → drift_at s pairs d ≤ drift_at s pairs e
  first : (d : ℕ) → d < e → is_told_of s told node d ≡ true → drift_at s pairs d < drift_at s pairs e

abbrev FindsFurthest : Skeleton → (told : ℕ → Bool) → List Pair → (node n : ℕ) → Option ℕ → Type 0
FindsFurthest s told pairs node n None = (d : ℕ) → d < n → is_told_of s told node d ≡ true → ⊥
FindsFurthest s told pairs node n (Some e) = IsFurthestBefore s told pairs node n e

module _ (s : Skeleton) (told : ℕ → Bool) (pairs : List Pair) (node : ℕ) where
  abbrev counts : ℕ → Bool
  counts n = is_told_of s told node n

  abbrev drift : ℕ → ℕ
  drift e = drift_at s pairs e

  -- none before n has a greater drift than m
  abbrev AreAtMost : ℕ → ℕ → Type 0
  AreAtMost n m = (d : ℕ) → d < n → counts d ≡ true → drift d ≤ m

  one_more_at_most : (n m : ℕ) → drift n ≤ m → AreAtMost n m → AreAtMost (suc n) m
  one_more_at_most n m here before d lt at = elim (cases_eq d n) [
    | inl same ↦ let is = ap (drift_at s pairs) same in omega arith
    | inr ne ↦ before d (omega arith) at
  ]

  further_found : (n : ℕ) (o : Option ℕ) → counts n ≡ true → FindsFurthest s told pairs node n o
      → IsFurthestBefore s told pairs node (suc n) (further_ahead s pairs o n)
  further_found n None here none = record {
    before = omega arith;
    counted = here;
    none_greater = one_more_at_most n (drift n) (omega arith) (λ d lt at. absurd (none d lt at));
    first = λ d lt at. absurd (none d lt at);
  }
  further_found n (Some e) here h =
      elim (cases_Bool (nat_lt (drift_at s pairs e) (drift_at s pairs n))) [
        | inl test ↦
            let more : drift_at s pairs e < drift_at s pairs n = grind (arith, nat_tests, test) in
            rw test (record {
              before = omega arith;
              counted = here;
              none_greater = one_more_at_most n (drift n) (omega arith) (λ d lt at. let le = h.none_greater d lt at in omega arith);
              first = λ d lt at. let le = h.none_greater d lt at in omega arith;
            })
        | inr test ↦
            let less : drift_at s pairs n ≤ drift_at s pairs e = grind (arith, nat_tests, test) in
            rw test (record {
              before = let lt = h.before in omega arith;
              counted = h.counted;
              none_greater = one_more_at_most n (drift e) less h.none_greater;
              first = h.first;
            })
      ]

  before_other : (n d : ℕ) → counts n ≡ false → d < suc n → counts d ≡ true → d < n
  before_other n d not lt at = elim (cases_eq d n) [
    | inl same ↦ absurd (let both : ◌≡◌ {A = Bool} true false = sym at ∙ ap counts same ∙ not in cc)
    | inr ne ↦ omega arith
  ]

  other_found : (n : ℕ) (o : Option ℕ) → counts n ≡ false → FindsFurthest s told pairs node n o → FindsFurthest s told pairs node (suc n) o
  other_found n None not none = λ d lt at. none d (before_other n d not lt at) at
  other_found n (Some e) not h = record {
    before = let lt = h.before in omega arith;
    counted = h.counted;
    none_greater = λ d lt at. h.none_greater d (before_other n d not lt at) at;
    first = h.first;
  }

  furthest_found : (n : ℕ) → FindsFurthest s told pairs node n (furthest_told s told pairs node n)
  furthest_found zero = λ d lt at. omega arith
  furthest_found (suc n) =
      elim (cases_Bool (counts n)) [
        | inl test ↦ rw test (further_found n (furthest_told s told pairs node n) test (furthest_found n))
        | inr test ↦ rw test (other_found n (furthest_told s told pairs node n) test (furthest_found n))
      ]

  -- by what it says
  told_so : (e : ℕ) → e < length s → counts e ≡ true → IsToldOf s told node e
  told_so e exists at =
      let both = and_parts ((skeleton_at s e).node == node) (told e) at in
      record { event = record { exists = exists; at_node = eqb-true (skeleton_at s e).node node both.0 }; is_told = both.1 }

  so_told : (e : ℕ) → IsToldOf s told node e → counts e ≡ true
  so_told e at = and_from ((skeleton_at s e).node == node) (told e) (eq-eqb (skeleton_at s e).node node at.event.at_node) at.is_told

  furthest_named : (o : Option ℕ) → FindsFurthest s told pairs node (length s) o
      → MatchOption o (HasNoneTold s told node) (λ e. IsFurthestTold s told pairs node e)
  furthest_named None none = λ e at. none e at.event.exists (so_told e at)
  furthest_named (Some e) h = record {
    event = told_so e h.before h.counted;
    none_greater = λ d at. h.none_greater d at.event.exists (so_told d at);
    first = λ d at lt. h.first d lt (so_told d at);
  }

  -- there is one such event
  one_furthest : (d e : ℕ) → IsFurthestTold s told pairs node d → IsFurthestTold s told pairs node e → d ≡ e
  one_furthest d e a b = elim (cases_order d e) [
    | inl same ↦ same
    | inr differ ↦ elim differ [
      | inl lt ↦
          let less = b.first d a.event lt in
          let most = a.none_greater e b.event in
          absurd (omega arith)
      | inr gt ↦
          let less = a.first e b.event gt in
          let most = b.none_greater d a.event in
          absurd (omega arith)
    ]
  ]

  -- drifts
  module _ (t : ClockEvents) (size : length t ≡ length s) where
    drift_found : (o : Option ℕ) → MatchOption o (HasNoneTold s told node) (λ e. IsFurthestTold s told pairs node e)
        → NamesToldDrift s t told pairs node (option_map (clock_drift_at s t pairs) o)
    drift_found None none = none
    drift_found (Some e) furthest = record {
      furthest = furthest;
      ahead = refl;
      origin = origin_begins t pairs e (omega (arith, furthest.event.event.exists, size));
    }

    same_drift : (found : Option Drift) (o : Option ℕ) → NamesToldDrift s t told pairs node found
        → MatchOption o (HasNoneTold s told node) (λ e. IsFurthestTold s told pairs node e) → found ≡ option_map (clock_drift_at s t pairs) o
    same_drift None None none other = refl
    same_drift None (Some e) none furthest = absurd (none e furthest.event)
    same_drift (Some drift) None is none = absurd (none drift.event.0 is.furthest.event)
    same_drift (Some drift) (Some e) is furthest =
        let event : drift.event.0 ≡ e = one_furthest drift.event.0 e is.furthest furthest in
        let ahead : drift.ahead ≡ drift_at s pairs e = is.ahead ∙ ap (drift_at s pairs) event in
        let exists : drift.event.0 < length t = omega (arith, is.furthest.event.event.exists, size) in
        let origin : drift.origin.0 ≡ clock_origin_of t pairs e =
        origin_is t pairs drift.event.0 exists drift.origin.0 is.origin ∙ ap (clock_origin_of t pairs) event in
        λ i. Some (record { ahead = ahead i; event = record { 0 = event i }; origin = record { 0 = origin i } })

    -- the drift of a node is the one that is found
    pub told_drift_is : (found : Option Drift) → NamesToldDrift s t told pairs node found → found ≡ told_drift s t told pairs node
    told_drift_is found h = same_drift found (furthest_told s told pairs node (length s)) h (furthest_named _ (furthest_found (length s)))

    pub told_drift_found : NamesToldDrift s t told pairs node (told_drift s t told pairs node)
    told_drift_found = drift_found (furthest_told s told pairs node (length s)) (furthest_named _ (furthest_found (length s)))

  -- where all readings are told
  and_true : (a b : Bool) → b ≡ true → (a && b) ≡ a
  and_true true b is = is
  and_true false b is = refl

  furthest_of_all : (n : ℕ) → ((k : ℕ) → k < n → told k ≡ true) → furthest_told s told pairs node n ≡ furthest_before s pairs node n
  furthest_of_all zero all = refl
  furthest_of_all (suc n) all =
      let before = furthest_of_all n (λ k lt. all k (omega arith)) in
      ap (λ (test : Bool). cond test (Some (further_ahead s pairs (furthest_told s told pairs node n) n)) (furthest_told s told pairs node n))
      (and_true ((skeleton_at s n).node == node) (told n) (all n (omega arith)))
      ∙ ap (λ (o : Option ℕ). cond ((skeleton_at s n).node == node) (Some (further_ahead s pairs o n)) o) before

pub told_drifts_are_found : ToldDriftsAreFound
told_drifts_are_found s t told pairs node size = told_drift_found s told pairs node t size

pub drifts_of_told_readings : DriftsOfToldReadings
drifts_of_told_readings log node all =
    ap (option_map (clock_drift_at (skeleton_of log) (clocks_of log) log.least))
    (furthest_of_all (skeleton_of log) (reading_told log) log.least node (length (skeleton_of log)) all)
