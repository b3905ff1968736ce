-- The functions of relation, influence and drift agree with the relations.
use Rattle.std.proofs.Common.{◌≡◌, ◌≢◌, ◌↔◌, ◌∙◌, ◌⊎◌, Bool, true, false, ℕ, zero, suc, ◌+◌, ◌==◌, ◌||◌, ◌<◌, ◌≤◌, inl, inr, List, [], ◌∷◌, length, get_or, Option, Some, None, arith, refl, subst, sym, ap}
use Rattle.std.specs.Prelude.{Contains, MatchOption, nat_lt, option_map}
use Rattle.std.specs.List.Sorted.{IsStrictlyIncreasing}
use Rattle.std.proofs.lemmas.Bool.{and_from, and_parts, cases_Bool, cases_eq, or_cases, or_left, or_right}
use Rattle.std.proofs.lemmas.Bool.Decides.{nat_tests}
use Rattle.std.proofs.lemmas.List.Kept.{AllPairs-from_increasing}
use Rattle.std.proofs.lemmas.Map.Made.{Contains-tail}
use Rattle.hlc_stamp.specs.Order.{Pair}
use Rattle.hlc_causality.specs.Causality.{HappenedBefore, IsDirectPredecessor, IsPrevious, IsSendOf, Skeleton, skeleton_at}
use Rattle.hlc_causality.specs.NodeEvents.{HasNoEvent, IsFurthestAhead, drift_at}
use Rattle.hlc_causality.specs.Past.{IsInPast}
use Rattle.hlc_causality.specs.Predecessors.{previous_of, send_of}
use Rattle.hlc_causality.proofs.Past.{happened_before_earlier, last_step_is_direct}
use Rattle.hlc_causality.proofs.PlacesBelow.{contains_passing, passing_from_contains, passing_places_rise}
use Rattle.hlc_causality.proofs.Predecessors.{direct_earlier, previous_is_unique, send_is_unique}
use Rattle.hlc_causality.proofs.PredecessorsFound.{Finds, previous_found, send_found}
use Rattle.hlc_explain.specs.declared.answers.Drift.{Drift}
use Rattle.hlc_explain.specs.declared.answers.Relation.{Relation}
use Rattle.hlc_explain.specs.declared.answers.Relation.TheVariants.{After, Before, Concurrent, Same}
use Rattle.hlc_explain.specs.Drift.{IsDriftOf}
use Rattle.hlc_explain.specs.Findings.{DriftsAreFound, HappenedBeforeIsTested, InfluencedAreFound, IsRelationOf, RelationsAreFound, drift_with_origin, further_ahead, furthest_before, happened_before, influenced_by, is_before, names_such, node_drift, relation_of}
use Rattle.hlc_explain.proofs.DriftLaws.{drift_is_unique}
use Rattle.hlc_explain.proofs.Origins.{origins_begin_chains}

-- a link that names an event of which the test holds
such_is_named : (P : ℕ → Type 0) (test : ℕ → Bool) (o : Option ℕ) → Finds P o → names_such test o ≡ true → (d : ℕ) × P d × (test d ≡ true)
such_is_named P test None found told = let both : false ≡ true = told in absurd cc
such_is_named P test (Some d) found told = (d, found, told)

names_the_such :
    (P : ℕ → Type 0) → ((d e : ℕ) → P d → P e → d ≡ e) → (test : ℕ → Bool) (o : Option ℕ) → Finds P o →
    (d : ℕ) → P d → test d ≡ true → names_such test o ≡ true
names_the_such P unique test None found d is told = absurd (found d is)
names_the_such P unique test (Some x) found d is told = ap test (unique x d found is) ∙ told

module _ (s : Skeleton) (e : ℕ) where
  -- e is an event, or happened before it
  here_or_before : (n d : ℕ) → ((is_before s n e d ≡ true) → HappenedBefore s e d) → ((d == e) || is_before s n e d) ≡ true → IsInPast s e d
  here_or_before n d tells told = elim (or_cases (d == e) (is_before s n e d) told) [
    | inl here ↦ let same : d ≡ e = grind (arith, nat_tests, here) in inl (sym same)
    | inr before ↦ inr (tells before)
  ]

  tested_here_or_before : (n d : ℕ) → (HappenedBefore s e d → is_before s n e d ≡ true) → IsInPast s e d
      → ((d == e) || is_before s n e d) ≡ true
  tested_here_or_before n d tested (inl here) =
      let same : d ≡ e = sym here in or_left (d == e) (is_before s n e d) (grind (arith, nat_tests, same))
  tested_here_or_before n d tested (inr before) = or_right (d == e) (is_before s n e d) (tested before)

  -- if at most n steps lead back, the test finds happened-before
  before_is_tested : (n f : ℕ) → f ≤ n → f < length s → (is_before s n e f ≡ true) ↔ HappenedBefore s e f
  before_is_tested zero f le exists = (
    λ told. let both : false ≡ true = told in absurd cc,
    λ h. let lt = (happened_before_earlier s e f h).0 in absurd (omega arith),
  )
  before_is_tested (suc n) f le exists =
      let test : ℕ → Bool = λ d. (d == e) || is_before s n e d in
      let past : (d : ℕ) → IsDirectPredecessor s d f → (test d ≡ true) ↔ IsInPast s e d = λ d direct.
      let lt = direct_earlier s d f direct in
      let before = before_is_tested n d (omega arith) (omega arith) in
      (here_or_before n d before.0, tested_here_or_before n d before.1) in (
        λ told. elim (or_cases (names_such test (previous_of s f)) (names_such test (send_of s f)) told) [
          | inl named ↦
              let d = such_is_named (λ d. IsPrevious s d f) test (previous_of s f) (previous_found s f exists) named in
              (last_step_is_direct s e f).1 (d.0, (past d.0 (inl d.1)).0 d.2, inl d.1)
          | inr named ↦
              let d = such_is_named (λ d. IsSendOf s d f) test (send_of s f) (send_found s f exists) named in
              (last_step_is_direct s e f).1 (d.0, (past d.0 (inr d.1)).0 d.2, inr d.1)
        ],
        λ h.
            let (d, before, direct) = (last_step_is_direct s e f).0 h in
            elim direct [
              | inl previous ↦
                  let unique : (x y : ℕ) → IsPrevious s x f → IsPrevious s y f → x ≡ y = λ x y. previous_is_unique s x y f in
                  let passes : test d ≡ true = (past d (inl previous)).1 before in
                  or_left (names_such test (previous_of s f)) (names_such test (send_of s f))
                  (names_the_such (λ d. IsPrevious s d f) unique test (previous_of s f) (previous_found s f exists) d previous passes)
              | inr send ↦
                  let unique : (x y : ℕ) → IsSendOf s x f → IsSendOf s y f → x ≡ y = λ x y. send_is_unique s x y f in
                  let passes : test d ≡ true = (past d (inr send)).1 before in
                  or_right (names_such test (previous_of s f)) (names_such test (send_of s f))
                  (names_the_such (λ d. IsSendOf s d f) unique test (send_of s f) (send_found s f exists) d send passes)
            ],
      )

pub happened_before_is_tested : HappenedBeforeIsTested
happened_before_is_tested s e f = (
  λ told.
      let parts = and_parts (nat_lt f (length s)) (is_before s f e f) told in
      let exists : f < length s = grind (arith, nat_tests, parts.0) in
      (before_is_tested s e f f (omega arith) exists).0 parts.1,
  λ h.
      let exists : f < length s = (happened_before_earlier s e f h).1 in
      and_from (nat_lt f (length s)) (is_before s f e f) (grind (arith, nat_tests, exists)) ((before_is_tested s e f f (omega arith) exists).1 h),
)

-- what isn't tested so didn't happen before
not_tested : (s : Skeleton) (e f : ℕ) → happened_before s e f ≡ false → ¬ HappenedBefore s e f
not_tested s e f denied h = let both : true ≡ false = sym ((happened_before_is_tested s e f).1 h) ∙ denied in cc

only_concurrent : (relation : Relation) → relation ≢ Before → relation ≢ After → relation ≢ Same → relation ≡ Concurrent
only_concurrent Before b a s = absurd (b refl)
only_concurrent After b a s = absurd (a refl)
only_concurrent Same b a s = absurd (s refl)
only_concurrent Concurrent b a s = refl

-- the relation of two events is the one that is found
pub relation_is : (s : Skeleton) (e f : ℕ) (relation : Relation) → IsRelationOf s e f relation → relation ≡ relation_of s e f
relation_is s e f relation h =
    elim (cases_Bool (e == f)) [
      | inl here ↦ let same : e ≡ f = grind (arith, nat_tests, here) in rw here (h.same.1 same)
      | inr apart ↦ rw apart (elim (cases_Bool (happened_before s e f)) [
        | inl before ↦ rw before (h.before.1 ((happened_before_is_tested s e f).0 before))
        | inr not_before ↦ rw not_before (elim (cases_Bool (happened_before s f e)) [
          | inl after ↦ rw after (h.after.1 ((happened_before_is_tested s f e).0 after))
          | inr not_after ↦
              let differ : e ≢ f = λ same. grind (arith, nat_tests, apart, same) in
              let no_before : relation ≢ Before = λ is. not_tested s e f not_before (h.before.0 is) in
              let no_after : relation ≢ After = λ is. not_tested s f e not_after (h.after.0 is) in
              rw not_after (only_concurrent relation no_before no_after (λ is. differ (h.same.0 is)))
        ])
      ])
    ]

module _ (s : Skeleton) (e f : ℕ) where
  not_both : HappenedBefore s e f → ¬ HappenedBefore s f e
  not_both before after =
      let a = (happened_before_earlier s e f before).0 in
      let b = (happened_before_earlier s f e after).0 in
      omega arith

  not_itself : e ≡ f → ¬ HappenedBefore s e f
  not_itself same before = let a = (happened_before_earlier s e f before).0 in omega arith

  not_after_itself : e ≡ f → ¬ HappenedBefore s f e
  not_after_itself same after = let a = (happened_before_earlier s f e after).0 in omega arith

  -- if a relation holds, it is the one in which the events stand
  stand_before : HappenedBefore s e f → IsRelationOf s e f Before
  stand_before before = record {
    before = (λ is. before, λ h. refl);
    after = (λ other. absurd (cc), λ h. absurd (not_both before h));
    same = (λ other. absurd (cc), λ h. absurd (not_itself h before));
  }

  pub stand_after : HappenedBefore s f e → IsRelationOf s e f After
  stand_after after = record {
    before = (λ other. absurd (cc), λ h. absurd (not_both h after));
    after = (λ is. after, λ h. refl);
    same = (λ other. absurd (cc), λ h. absurd (not_after_itself h after));
  }

  pub stand_same : e ≡ f → IsRelationOf s e f Same
  stand_same same = record {
    before = (λ other. absurd (cc), λ h. absurd (not_itself same h));
    after = (λ other. absurd (cc), λ h. absurd (not_after_itself same h));
    same = (λ is. same, λ h. refl);
  }

  pub stand_apart : e ≢ f → ¬ HappenedBefore s e f → ¬ HappenedBefore s f e → IsRelationOf s e f Concurrent
  stand_apart differ not_before not_after = record {
    before = (λ other. absurd (cc), λ h. absurd (not_before h));
    after = (λ other. absurd (cc), λ h. absurd (not_after h));
    same = (λ other. absurd (cc), λ h. absurd (differ h));
  }

pub relations_are_found : RelationsAreFound
relations_are_found s e f =
    elim (cases_Bool (e == f)) [
      | inl here ↦ let same : e ≡ f = grind (arith, nat_tests, here) in rw here (stand_same s e f same)
      | inr apart ↦ rw apart (elim (cases_Bool (happened_before s e f)) [
        | inl before ↦ rw before (stand_before s e f ((happened_before_is_tested s e f).0 before))
        | inr not_before ↦ rw not_before (elim (cases_Bool (happened_before s f e)) [
          | inl after ↦ rw after (stand_after s e f ((happened_before_is_tested s f e).0 after))
          | inr not_after ↦
              let differ : e ≢ f = λ same. grind (arith, nat_tests, apart, same) in
              rw not_after (stand_apart s e f differ (not_tested s e f not_before) (not_tested s f e not_after))
        ])
      ])
    ]

-- the first of a rising list is below the others
below_rest : (x : ℕ) (xs : List ℕ) (f : ℕ) → IsStrictlyIncreasing (x ∷ xs) → Contains xs f → x < f
below_rest x xs f rising (k, within, is) =
    let lt : x < get_or xs k f = AllPairs-from_increasing (x ∷ xs) rising 0 (suc k) f (omega arith) (omega arith) in
    omega arith

rising_rest : (x : ℕ) (xs : List ℕ) → IsStrictlyIncreasing (x ∷ xs) → IsStrictlyIncreasing xs
rising_rest x xs rising k within = AllPairs-from_increasing (x ∷ xs) rising (suc k) (suc (k + 1)) 0 (omega arith) (omega arith)

first_or_rest : (x : ℕ) (xs : List ℕ) (f : ℕ) → Contains (x ∷ xs) f → (x ≡ f) ⊎ Contains xs f
first_or_rest x xs f (zero, within, is) = inl is
first_or_rest x xs f (suc k, within, is) = inr (k, omega arith, is)

more_has : (x : ℕ) (xs : List ℕ) (f : ℕ) → Contains xs f → Contains (x ∷ xs) f
more_has x xs f (k, within, is) = (suc k, omega arith, is)

-- rising lists of the same numbers are equal
pub rising_is_unique :
    (xs ys : List ℕ) → IsStrictlyIncreasing xs → IsStrictlyIncreasing ys → ((f : ℕ) → Contains xs f ↔ Contains ys f) → xs ≡ ys
rising_is_unique [] [] p q same = refl
rising_is_unique [] (y ∷ ys) p q same = let (k, within, is) = (same y).1 (0, omega arith, refl) in absurd (omega arith)
rising_is_unique (x ∷ xs) [] p q same = let (k, within, is) = (same x).0 (0, omega arith, refl) in absurd (omega arith)
rising_is_unique (x ∷ xs) (y ∷ ys) p q same =
    let first : x ≡ y =
    elim (first_or_rest y ys x ((same x).0 (0, omega arith, refl))) [
      | inl is ↦ sym is
      | inr rest ↦
          let a = below_rest y ys x q rest in
          elim (first_or_rest x xs y ((same y).1 (0, omega arith, refl))) [
            | inl is ↦ is
            | inr more ↦ let b = below_rest x xs y p more in absurd (omega arith)
          ]
    ] in
    let others : (f : ℕ) → Contains xs f ↔ Contains ys f = λ f. (
      λ has. Contains-tail y ys f (λ is. let lt = below_rest x xs f p has in omega arith) ((same f).0 (more_has x xs f has)),
      λ has. Contains-tail x xs f (λ is. let lt = below_rest y ys f q has in omega arith) ((same f).1 (more_has y ys f has)),
    ) in
    ap (λ (n : ℕ). n ∷ xs) first ∙ ap (λ (ns : List ℕ). y ∷ ns) (rising_is_unique xs ys (rising_rest x xs p) (rising_rest y ys q) others)

pub influenced_are_found : InfluencedAreFound
influenced_are_found s e = (
  λ f. (
    λ has. (happened_before_is_tested s e f).0 (passing_from_contains (happened_before s e) (length s) f has).1,
    λ h.
        contains_passing (happened_before s e) (length s) f (happened_before_earlier s e f h).1 ((happened_before_is_tested s e f).1 h),
  ),
  passing_places_rise (happened_before s e) (length s),
)

-- a rising list of all events that an event happened before is the one that is found
pub influenced_is :
    (s : Skeleton) (e : ℕ) (list : List ℕ) → ((f : ℕ) → Contains list f ↔ HappenedBefore s e f) → IsStrictlyIncreasing list →
    list ≡ influenced_by s e
influenced_is s e list all rising =
    let found = influenced_are_found s e in
    rising_is_unique list (influenced_by s e) rising found.1
    (λ f. (λ has. (found.0 f).1 ((all f).0 has), λ has. (all f).1 ((found.0 f).0 has)))

-- the first event of greatest drift among a node's events before a place
pub record IsFurthestBefore (s : Skeleton) (pairs : List Pair) (node n e : ℕ) : Type 0 where
  pub before : e < n
  pub at_node : (skeleton_at s e).node ≡ node
  pub none_greater : (d : ℕ) → d < n → (skeleton_at s d).node ≡ node → drift_at s pairs d ≤ drift_at s pairs e
  pub first : (d : ℕ) → d < e → (skeleton_at s d).node ≡ node → drift_at s pairs d < drift_at s pairs e

abbrev FindsFurthest : Skeleton → List Pair → ℕ → ℕ → Option ℕ → Type 0
FindsFurthest s pairs node n None = (d : ℕ) → d < n → (skeleton_at s d).node ≢ node
FindsFurthest s pairs node n (Some e) = IsFurthestBefore s pairs node n e

-- a drift of the node, or none if it has no event
abbrev pub IsNodeDrift : Skeleton → List Pair → ℕ → Option Drift → Type 0
IsNodeDrift s pairs node found = MatchOption found (HasNoEvent s node) (λ drift. IsDriftOf s pairs node drift)

module _ (s : Skeleton) (pairs : List Pair) (node : ℕ) where
  -- no event of the node before n has a drift above m
  abbrev AreAtMost : ℕ → ℕ → Type 0
  AreAtMost n m = (d : ℕ) → d < n → (skeleton_at s d).node ≡ node → drift_at s pairs d ≤ m

  -- nor has the event at n
  one_more_at_most : (n m : ℕ) → drift_at s pairs n ≤ m → AreAtMost n m → AreAtMost (suc n) m
  one_more_at_most n m here before d lt at = elim (cases_eq d n) [
    | inl same ↦ let is = ap (drift_at s pairs) same in omega arith
    | inr ne ↦ before d (omega arith) at
  ]

  further_found :
      (n : ℕ) (o : Option ℕ) → (skeleton_at s n).node ≡ node → FindsFurthest s pairs node n o →
      IsFurthestBefore s pairs node (suc n) (further_ahead s pairs o n)
  further_found n None here none = record {
    before = omega arith;
    at_node = here;
    none_greater = one_more_at_most n (drift_at s pairs n) (omega arith) (λ d lt at. absurd (none d lt at));
    first = λ d lt at. absurd (none d lt at);
  }
  further_found n (Some e) here h =
      elim (cases_Bool (nat_lt (drift_at s pairs e) (drift_at s pairs n))) [
        | inl test ↦
            let more : drift_at s pairs e < drift_at s pairs n = grind (arith, nat_tests, test) in
            rw test (record {
              before = omega arith;
              at_node = here;
              none_greater =
                  one_more_at_most n (drift_at s pairs n) (omega arith) (λ d lt at. let le = h.none_greater d lt at in omega arith);
              first = λ d lt at. let le = h.none_greater d lt at in omega arith;
            })
        | inr test ↦
            let less : drift_at s pairs n ≤ drift_at s pairs e = grind (arith, nat_tests, test) in
            rw test (record {
              before = let lt = h.before in omega arith;
              at_node = h.at_node;
              none_greater = one_more_at_most n (drift_at s pairs e) less h.none_greater;
              first = h.first;
            })
      ]

  -- if the event at n is another node's, an event of this node comes before it
  before_other : (n d : ℕ) → (skeleton_at s n).node ≢ node → d < suc n → (skeleton_at s d).node ≡ node → d < n
  before_other n d other lt at = elim (cases_eq d n) [
    | inl same ↦ absurd (other (subst (λ m. (skeleton_at s m).node ≡ node) same at))
    | inr ne ↦ omega arith
  ]

  other_found :
      (n : ℕ) (o : Option ℕ) → (skeleton_at s n).node ≢ node → FindsFurthest s pairs node n o → FindsFurthest s pairs node (suc n) o
  other_found n None other none = λ d lt at. none d (before_other n d other lt at) at
  other_found n (Some e) other h = record {
    before = let lt = h.before in omega arith;
    at_node = h.at_node;
    none_greater = λ d lt at. h.none_greater d (before_other n d other lt at) at;
    first = h.first;
  }

  furthest_found : (n : ℕ) → FindsFurthest s pairs node n (furthest_before s pairs node n)
  furthest_found zero = λ d lt at. omega arith
  furthest_found (suc n) =
      elim (cases_Bool ((skeleton_at s n).node == node)) [
        | inl test ↦
            let here : (skeleton_at s n).node ≡ node = grind (arith, nat_tests, test) in
            rw test (further_found n (furthest_before s pairs node n) here (furthest_found n))
        | inr test ↦
            let other : (skeleton_at s n).node ≢ node = λ same. grind (arith, nat_tests, test, same) in
            rw test (other_found n (furthest_before s pairs node n) other (furthest_found n))
      ]

  furthest_named : (o : Option ℕ) → FindsFurthest s pairs node (length s) o
      → MatchOption o (HasNoEvent s node) (λ e. IsFurthestAhead s pairs node e)
  furthest_named None none = λ e event. none e event.exists event.at_node
  furthest_named (Some e) h = record {
    event = record { exists = h.before; at_node = h.at_node };
    none_greater = λ d event. h.none_greater d event.exists event.at_node;
    first = λ d event lt. h.first d lt event.at_node;
  }

  -- the event that is found is the first that is furthest ahead
  pub furthest_is_found : MatchOption (furthest_before s pairs node (length s)) (HasNoEvent s node) (λ e. IsFurthestAhead s pairs node e)
  furthest_is_found = furthest_named (furthest_before s pairs node (length s)) (furthest_found (length s))

  found_drift : (o : Option ℕ) → MatchOption o (HasNoEvent s node) (λ e. IsFurthestAhead s pairs node e)
      → IsNodeDrift s pairs node (option_map (drift_with_origin s pairs) o)
  found_drift None none = none
  found_drift (Some e) furthest = record {
    furthest = furthest;
    ahead = refl;
    origin = origins_begin_chains s pairs e furthest.event.exists;
  }

pub drifts_are_found : DriftsAreFound
drifts_are_found s pairs node =
    found_drift s pairs node (furthest_before s pairs node (length s)) (furthest_is_found s pairs node)

same_drift :
    (s : Skeleton) (pairs : List Pair) (node : ℕ) (a b : Option Drift) → IsNodeDrift s pairs node a → IsNodeDrift s pairs node b → a ≡ b
same_drift s pairs node None None p q = refl
same_drift s pairs node None (Some b) p q = absurd (p b.event.0 q.furthest.event)
same_drift s pairs node (Some a) None p q = absurd (q a.event.0 p.furthest.event)
same_drift s pairs node (Some a) (Some b) p q = ap (λ (drift : Drift). Some drift) (drift_is_unique s pairs node a b p q)

-- the drift of a node is the one that is found
pub drift_is :
    (s : Skeleton) (pairs : List Pair) (node : ℕ) (found : Option Drift) → IsNodeDrift s pairs node found → found ≡ node_drift s pairs node
drift_is s pairs node found h = same_drift s pairs node found (node_drift s pairs node) h (drifts_are_found s pairs node)
