-- What vectors count: the events of a node in a past.
use Rattle.std.proofs.Common.{◌≡◌, ◌≢◌, ◌∙◌, ◌⊎◌, ℕ, ◌+◌, ◌==◌, ◌||◌, ◌&&◌, ◌<◌, ◌≤◌, inl, inr, Bool, true, false, [], length, Option, Some, None, arith, refl, sym, ap, subst}
use Rattle.std.specs.Prelude.{max, not}
use Rattle.std.proofs.lemmas.Bool.{and_from, and_parts, cases_Bool, cases_eq, cases_lt, false_from_ne_true, not-true, or_cases, or_left, or_right}
use Rattle.std.proofs.lemmas.Bool.Decides.{nat_tests}
use Rattle.hlc_stamp.specs.declared.id.EventId.{EventId}
use Rattle.hlc_causality.specs.Causality.{HappenedBefore, IsDirectPredecessor, IsEarlierAtNode, IsPrevious, IsSendOf, Skeleton, skeleton_at}
use Rattle.hlc_causality.specs.Neighbours.{NamesPrevious, NamesSend}
use Rattle.hlc_causality.specs.Past.{IsInPast}
use Rattle.hlc_causality.proofs.Past.{direct_happened_before, happened_before_earlier, last_step_is_direct, past_then, past_trans}
use Rattle.hlc_causality.proofs.Predecessors.{previous_is_unique, send_is_unique}
use Rattle.hlc_explain.specs.Findings.{happened_before}
use Rattle.hlc_explain.proofs.Findings.{happened_before_is_tested}
use Rattle.hlc_explain.specs.Vectors.{is_counted, vector_at}
use Rattle.hlc_explain.proofs.PlaceCounts.{bool_is, count_below, count_le, count_one_more, count_same, none_counted, some_or_none}

module _ (s : Skeleton) where
  pub counted_tells : (e node d : ℕ) → is_counted s e node d ≡ true → ((skeleton_at s d).node ≡ node) × IsInPast s d e
  counted_tells e node d told =
      let parts = and_parts ((skeleton_at s d).node == node) ((d == e) || happened_before s d e) told in
      let at_node : (skeleton_at s d).node ≡ node = grind (arith, nat_tests, parts.0) in
      elim (or_cases (d == e) (happened_before s d e) parts.1) [
        | inl here ↦ let same : d ≡ e = grind (arith, nat_tests, here) in (at_node, inl same)
        | inr before ↦ (at_node, inr ((happened_before_is_tested s d e).0 before))
      ]

  past_tested : (e d : ℕ) → IsInPast s d e → ((d == e) || happened_before s d e) ≡ true
  past_tested e d (inl same) = or_left (d == e) (happened_before s d e) (grind (arith, nat_tests, same))
  past_tested e d (inr before) = or_right (d == e) (happened_before s d e) ((happened_before_is_tested s d e).1 before)

  pub past_is_counted : (e node d : ℕ) → (skeleton_at s d).node ≡ node → IsInPast s d e → is_counted s e node d ≡ true
  past_is_counted e node d at_node past =
      let first : ((skeleton_at s d).node == node) ≡ true = grind (arith, nat_tests, at_node) in
      and_from ((skeleton_at s d).node == node) ((d == e) || happened_before s d e) first (past_tested e d past)

  pub not_counted : (e node d : ℕ) → ¬ (((skeleton_at s d).node ≡ node) × IsInPast s d e) → is_counted s e node d ≡ false
  not_counted e node d not_past = false_from_ne_true (is_counted s e node d) (λ told. not_past (counted_tells e node d told))

  pub past_is_at_most : (d e : ℕ) → IsInPast s d e → d ≤ e
  past_is_at_most d e (inl same) = omega arith
  past_is_at_most d e (inr before) = let lt = (happened_before_earlier s d e before).0 in omega arith

  -- of two events of a node the earlier one is in the past of the later one
  pub earlier_is_past : (d e : ℕ) → d ≤ e → e < length s → (skeleton_at s d).node ≡ (skeleton_at s e).node → IsInPast s d e
  earlier_is_past d e le exists same = elim (cases_eq d e) [
    | inl is ↦ inl is
    | inr ne ↦ let at_node : IsEarlierAtNode s d e = record { earlier = omega arith; exists = exists; same_node = same } in inr ([], inl at_node)
  ]

  -- what is counted at e is counted at f
  abbrev pub CountedAtBoth : (e f node : ℕ) → Type 0
  CountedAtBoth e f node = (d : ℕ) → d < length s → is_counted s e node d ≡ true → is_counted s f node d ≡ true

  pub past_counted_too : (e f node : ℕ) → IsInPast s e f → CountedAtBoth e f node
  past_counted_too e f node past d exists told =
      let (at_node, before) = counted_tells e node d told in past_is_counted f node d at_node (past_trans s d e f before past)

  -- the counted events of a node are its first ones: of two events, one has all that the other has
  pub one_has_all : (x y node : ℕ) → x < length s → y < length s → CountedAtBoth x y node ⊎ CountedAtBoth y x node
  one_has_all x y node x_exists y_exists =
      let only : ℕ → Bool = λ d. is_counted s x node d && not (is_counted s y node d) in
      elim (some_or_none only (length s)) [
        | inr none ↦ inl (λ d exists told. elim (cases_Bool (is_counted s y node d)) [
          | inl also ↦ also
          | inr other ↦
              let this : only d ≡ true = and_from (is_counted s x node d) (not (is_counted s y node d)) told (ap not other) in
              let both : true ≡ false = sym this ∙ none d exists in
              absurd cc
        ])
        | inl found ↦
            let (first, first_exists, is) = found in
            let parts = and_parts (is_counted s x node first) (not (is_counted s y node first)) is in
            let (first_at, first_past) = counted_tells x node first parts.0 in
            inr (λ d exists told.
            let (at_node, past) = counted_tells y node d told in
            elim (cases_lt d first) [
              | inl lt ↦
                  let before = earlier_is_past d first (omega arith) first_exists (at_node ∙ sym first_at) in
                  past_is_counted x node d at_node (past_trans s d first x before first_past)
              | inr le ↦
                  let before = earlier_is_past first d le exists (first_at ∙ sym at_node) in
                  let also = past_is_counted y node first first_at (past_trans s first d y before past) in
                  let other = not-true (is_counted s y node first) parts.1 in
                  let both : true ≡ false = sym also ∙ other in
                  absurd cc
            ])
      ]

  -- whether d is counted at the event that a link names
  abbrev pub is_linked_count : Option EventId → (node d : ℕ) → Bool
  is_linked_count None node d = false
  is_linked_count (Some x) node d = is_counted s x.0 node d

  -- how many are counted there
  abbrev pub linked_vector_at : Option EventId → (node : ℕ) → ℕ
  linked_vector_at None node = 0
  linked_vector_at (Some x) node = vector_at s x.0 node

  linked_vector_is : (link : Option EventId) (node : ℕ) → count_below (is_linked_count link node) (length s) ≡ linked_vector_at link node
  linked_vector_is None node = none_counted (is_linked_count None node) (length s) (λ d exists. refl)
  linked_vector_is (Some x) node = refl

  abbrev LinkExists : Option EventId → Type 0
  LinkExists None = Unit {0}
  LinkExists (Some x) = x.0 < length s

  one_link_has_all : (p q : Option EventId) (node : ℕ) → LinkExists p → LinkExists q
      → ((d : ℕ) → d < length s → is_linked_count p node d ≡ true → is_linked_count q node d ≡ true)
      ⊎ ((d : ℕ) → d < length s → is_linked_count q node d ≡ true → is_linked_count p node d ≡ true)
  one_link_has_all None q node here there = inl (λ d exists told. let both : false ≡ true = told in absurd cc)
  one_link_has_all (Some x) None node here there = inr (λ d exists told. let both : false ≡ true = told in absurd cc)
  one_link_has_all (Some x) (Some y) node here there = one_has_all x.0 y.0 node here there

  -- whether d is counted at one of two
  abbrev is_either : (p q : Option EventId) (node d : ℕ) → Bool
  is_either p q node d = is_linked_count p node d || is_linked_count q node d

  or_same_left : (a b : Bool) → (b ≡ true → a ≡ true) → (a || b) ≡ a
  or_same_left a b all = bool_is (a || b) a (λ told. elim (or_cases a b told) [ inl is ↦ is | inr is ↦ all is ]) (or_left a b)

  or_same_right : (a b : Bool) → (a ≡ true → b ≡ true) → (a || b) ≡ b
  or_same_right a b all = bool_is (a || b) b (λ told. elim (or_cases a b told) [ inl is ↦ all is | inr is ↦ is ]) (or_right a b)

  either_is_greatest : (p q : Option EventId) (node : ℕ) → LinkExists p → LinkExists q
      → count_below (is_either p q node) (length s) ≡ max (linked_vector_at p node) (linked_vector_at q node)
  either_is_greatest p q node here there =
      let first = is_linked_count p node in
      let second = is_linked_count q node in
      let n = length s in
      let first_is = linked_vector_is p node in
      let second_is = linked_vector_is q node in
      elim (one_link_has_all p q node here there) [
        | inl all ↦
            let same = count_same (is_either p q node) second n (λ d lt. or_same_right (first d) (second d) (all d lt)) in
            let le = count_le first second n all in
            omega arith
        | inr all ↦
            let same = count_same (is_either p q node) first n (λ d lt. or_same_left (first d) (second d) (all d lt)) in
            let le = count_le second first n all in
            omega arith
      ]

module _ (s : Skeleton) (f : ℕ) where
  -- a link names a direct predecessor, if it names an event
  abbrev LeadsBack : Option EventId → Type 0
  LeadsBack None = Unit {0}
  LeadsBack (Some x) = IsDirectPredecessor s x.0 f

  previous_leads_back : (p : Option EventId) → NamesPrevious s f p → LeadsBack p
  previous_leads_back None named = tt
  previous_leads_back (Some x) named = inl named

  send_leads_back : (q : Option EventId) → NamesSend s f q → LeadsBack q
  send_leads_back None named = tt
  send_leads_back (Some x) named = inr named

  linked_exists : (link : Option EventId) → LeadsBack link → LinkExists s link
  linked_exists None back = tt
  linked_exists (Some x) back =
      let (lt, exists) = happened_before_earlier s x.0 f (direct_happened_before s x.0 f back) in omega arith

  -- what is counted at a link happened before f
  linked_is_before : (link : Option EventId) (node d : ℕ) → LeadsBack link → is_linked_count s link node d ≡ true
      → ((skeleton_at s d).node ≡ node) × HappenedBefore s d f
  linked_is_before None node d back told = let both : false ≡ true = told in absurd cc
  linked_is_before (Some x) node d back told =
      let (at_node, past) = counted_tells s x.0 node d told in
      (at_node, past_then s d x.0 f past (direct_happened_before s x.0 f back))

  counted_by_previous : (p : Option EventId) (node d x : ℕ) → NamesPrevious s f p → IsPrevious s x f
      → (skeleton_at s d).node ≡ node → IsInPast s d x → is_linked_count s p node d ≡ true
  counted_by_previous None node d x named previous at_node past = absurd (named x previous.at_node)
  counted_by_previous (Some y) node d x named previous at_node past =
      let same = previous_is_unique s x y.0 f previous named in
      past_is_counted s y.0 node d at_node (subst (λ z. IsInPast s d z) same past)

  counted_by_send : (q : Option EventId) (node d x : ℕ) → NamesSend s f q → IsSendOf s x f
      → (skeleton_at s d).node ≡ node → IsInPast s d x → is_linked_count s q node d ≡ true
  counted_by_send None node d x named send at_node past = absurd (named x send)
  counted_by_send (Some y) node d x named send at_node past =
      let same = send_is_unique s x y.0 f send named in
      past_is_counted s y.0 node d at_node (subst (λ z. IsInPast s d z) same past)

  module _ (p q : Option EventId) (node : ℕ) (previous : NamesPrevious s f p) (sent : NamesSend s f q) where
    either_is_before : (d : ℕ) → is_either s p q node d ≡ true → ((skeleton_at s d).node ≡ node) × HappenedBefore s d f
    either_is_before d told = elim (or_cases (is_linked_count s p node d) (is_linked_count s q node d) told) [
      | inl is ↦ linked_is_before p node d (previous_leads_back p previous) is
      | inr is ↦ linked_is_before q node d (send_leads_back q sent) is
    ]

    before_is_either : (d : ℕ) → (skeleton_at s d).node ≡ node → HappenedBefore s d f → is_either s p q node d ≡ true
    before_is_either d at_node before =
        let (x, past, direct) = (last_step_is_direct s d f).0 before in
        elim direct [
          | inl is ↦ or_left (is_linked_count s p node d) (is_linked_count s q node d) (counted_by_previous p node d x previous is at_node past)
          | inr is ↦ or_right (is_linked_count s p node d) (is_linked_count s q node d) (counted_by_send q node d x sent is at_node past)
        ]

    either_or_itself : (d : ℕ) → d ≢ f → is_either s p q node d ≡ is_counted s f node d
    either_or_itself d other = bool_is (is_either s p q node d) (is_counted s f node d)
        (λ told. let (at_node, before) = either_is_before d told in past_is_counted s f node d at_node (inr before))
        (λ told. let (at_node, past) = counted_tells s f node d told in elim past [
          | inl same ↦ absurd (other same)
          | inr before ↦ before_is_either d at_node before
        ])

    not_either_itself : is_either s p q node f ≡ false
    not_either_itself = false_from_ne_true (is_either s p q node f)
        (λ told. let lt = (happened_before_earlier s f f (either_is_before f told).1).0 in omega arith)

    both_exist : LinkExists s p × LinkExists s q
    both_exist = (linked_exists p (previous_leads_back p previous), linked_exists q (send_leads_back q sent))

    -- at f's own node, f is counted too
    pub vector_at_own : f < length s → (skeleton_at s f).node ≡ node
        → vector_at s f node ≡ max (linked_vector_at s p node) (linked_vector_at s q node) + 1
    vector_at_own exists own =
        let itself = past_is_counted s f node f own (inl refl) in
        let more = count_one_more (is_either s p q node) (is_counted s f node) (length s) f exists not_either_itself itself either_or_itself in
        let most = either_is_greatest s p q node both_exist.0 both_exist.1 in
        omega arith

    pub vector_at_other : (skeleton_at s f).node ≢ node
        → vector_at s f node ≡ max (linked_vector_at s p node) (linked_vector_at s q node)
    vector_at_other other =
        let same : (d : ℕ) → d < length s → is_either s p q node d ≡ is_counted s f node d = λ d exists. elim (cases_eq d f) [
          | inl is ↦
              let none : is_counted s f node f ≡ false = not_counted s f node f (λ both. other both.0) in
              ap (λ x. is_either s p q node x) is ∙ not_either_itself ∙ sym none ∙ ap (λ x. is_counted s f node x) (sym is)
          | inr ne ↦ either_or_itself d ne
        ] in
        let counts = count_same (is_either s p q node) (is_counted s f node) (length s) same in
        let most = either_is_greatest s p q node both_exist.0 both_exist.1 in
        omega arith
