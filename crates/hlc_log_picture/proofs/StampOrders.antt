-- Events sorted by their least stamps stand in a causal order.
use Rattle.std.proofs.Common.{◌≡◌, ◌≢◌, ℕ, ◌+◌, ◌<◌, inl, inr, Bool, true, false, List, [], ◌∷◌, ◌++◌, length, map, take, get_or, arith, refl, subst, sym, ap, ◌∙◌, Option, Some, None}
use Rattle.std.specs.Prelude.{Contains, IfSome, is_some}
use Rattle.std.specs.Cmp.{IsStrictWeakOrder}
use Rattle.std.specs.List.{IsDistinct}
use Rattle.std.specs.List.Sorted.{IsPermutation, IsSortedBy}
use Rattle.std.specs.Ordering.{is_lt}
use Rattle.std.proofs.Math.Dec.{eqb}
use Rattle.std.proofs.lemmas.Bool.{cases_eq, cases_lt, cases_order, eq-eqb, ne_eqb}
use Rattle.std.proofs.lemmas.Bool.Decides.{nat_tests}
use Rattle.std.proofs.lemmas.List.{get_or-map, get_or_append_left, get_or_default, get_or_push, length-map, length_push}
use Rattle.std.proofs.lemmas.List.Sorted.{Contains-permutation, IsPermutation-sym, length_permutation, sorted_far}
use Rattle.std.proofs.lemmas.Map.Keys.{IsDistinct-IsPermutation, IsDistinct-from_apart, apart_from_distinct}
use Rattle.hlc_stamp.specs.Ids.{places_of}
use Rattle.hlc_stamp.specs.Order.{IsAtMost, IsBelow, IsOutranked, Pair, RanksAreCompared, rank_cmp, zero_pair}
use Rattle.hlc_stamp.specs.declared.id.EventId.{EventId}
use Rattle.hlc_stamp.specs.declared.rank.Rank.{Rank}
use Rattle.hlc_causality.specs.declared.receives.Receives.{Receives}
use Rattle.hlc_causality.specs.declared.receives.Receives.TheVariants.{Tick}
use Rattle.hlc_causality.specs.declared.event_rule.EventRule.{EventRule}
use Rattle.hlc_causality.specs.Assignment.{pair_at}
use Rattle.hlc_causality.specs.Causality.{HappenedBefore, Skeleton, SkeletonEvent, skeleton_at}
use Rattle.hlc_causality.specs.ClockEvents.{ClockEvent, clock_event_at, clock_skeleton}
use Rattle.hlc_causality.specs.Feasible.{Follows, IsLeastFeasible}
use Rattle.hlc_causality.specs.ReceiveEvents.{ClockRules, clock_events, event_by, own_at}
use Rattle.hlc_causality.proofs.Feasible.{feasible_never_falls}
use Rattle.hlc_causality.proofs.Past.{last_step_is_direct}
use Rattle.hlc_causality.proofs.ReceiveEvents.{clock_events_at, clock_events_size, rule_ticks, same_links, ticks_by_rule}
use Rattle.hlc_causality.proofs.SameLinks.{earlier_kept, send_kept}
use Rattle.hlc_stamp.proofs.OrderLaws.{at_most_below, at_most_itself}
use Rattle.hlc_log.specs.CausalOrder.{IsCausalOrder, Needs, place_at}
use Rattle.hlc_log.specs.Events.{event_at, receive_at, rule_by}
use Rattle.hlc_log.specs.declared.log_event.LogKind.{LogKind}
use Rattle.hlc_log.specs.declared.log_event.LogKind.TheVariants as kind
use Rattle.hlc_log.specs.OrderSkeleton.{index_in, rules_in, skeleton_in}
use Rattle.hlc_log.specs.declared.log_event.LogEvent.{LogEvent}
use Rattle.hlc_log.proofs.Agreement.{causal_orders_agree}
use Rattle.hlc_log.proofs.CausalOrders.{place_of_contained, places_differ, contained_before}
use Rattle.hlc_log.proofs.OrderSkeletons.{earlier_from_order, earlier_of, length-skeleton_in, own_in, place_exists, place_of_index, same_position, send_from_order}
use Rattle.hlc_ordered_log.specs.InOrder.{IsInOrder, LogInOrder, clocks_of, event_in_order, skeleton_of}
use Rattle.hlc_ordered_log.proofs.Ordering.{order_len}
use Rattle.hlc_log_picture.specs.StampOrder.{AreRanked, AreRows, IsInStampOrder, IsRow, rank_at, row_at}
use Rattle.hlc_log_picture.specs.declared.stamp_order.Row.{Row}

-- no row
abbrev no_row : Row
no_row = record { rank = record { stamp = zero_pair; node = record { 0 = 0 } }; place = record { 0 = 0 } }

-- one row more
pub rows_push : (log : LogInOrder) (n : ℕ) (rows : List Row) (row : Row) → AreRows log n rows → IsRow log n row → AreRows log (n + 1) (rows ++ row ∷ [])
rows_push log n rows row before next = record {
  one_each = length_push rows row ∙ ap (λ (m : ℕ). m + 1) before.one_each;
  each = λ k lt. elim (cases_eq k n) [
    | inl last ↦
        let size = before.one_each in
        let here : row_at (rows ++ row ∷ []) k ≡ row = get_or_push rows row no_row k (omega arith) in
        subst (λ (r : Row). IsRow log k r) (sym here) (subst (λ (m : ℕ). IsRow log m row) (sym last) next)
    | inr ne ↦
        let size = before.one_each in
        let here : row_at (rows ++ row ∷ []) k ≡ row_at rows k = get_or_append_left rows (row ∷ []) no_row k (omega arith) in
        subst (λ (r : Row). IsRow log k r) (sym here) (before.each k (omega arith))
  ];
}

-- the test by which rows are sorted
abbrev pub row_lt : Row → Row → Bool
row_lt a b = is_lt (rank_cmp a.rank b.rank)

pub rows_compare : IsStrictWeakOrder row_lt
rows_compare = record {
  one_way = λ a b h. grind (arith, nat_tests);
  chain = λ a b d h k. grind (arith, nat_tests);
}

-- one of two ranks is the lower, or they are of one stamp and one node
module _ (compared : RanksAreCompared) (a b : Rank) (no : is_lt (rank_cmp b a) ≡ false) where
  not_lower : ¬ IsOutranked b a
  not_lower lower =
      let yes = (compared b a).1 lower in
      let bad : true ≡ false = sym yes ∙ no in
      absurd (cc)

  lower_node : a.stamp ≡ b.stamp → (a.node.0 ≡ b.node.0 → ⊥) → IsOutranked a b
  lower_node stamps differ = elim (cases_order a.node.0 b.node.0) [
    | inl node ↦ absurd (differ node)
    | inr other ↦ elim other [
      | inl lt ↦ inr (stamps, lt)
      | inr gt ↦ absurd (not_lower (inr (sym stamps, gt)))
    ]
  ]

  lower_c : a.stamp.l ≡ b.stamp.l → (a.stamp ≡ b.stamp → a.node.0 ≡ b.node.0 → ⊥) → IsOutranked a b
  lower_c l differ = elim (cases_order a.stamp.c b.stamp.c) [
    | inl c ↦
        let stamps : a.stamp ≡ b.stamp = λ i. record { l = l i; c = c i } in
        lower_node stamps (differ stamps)
    | inr other ↦ elim other [
      | inl lt ↦ inl (inr (l, lt))
      | inr gt ↦ absurd (not_lower (inl (inr (sym l, gt))))
    ]
  ]

  not_after : (a.stamp ≡ b.stamp → a.node.0 ≡ b.node.0 → ⊥) → IsOutranked a b
  not_after differ = elim (cases_order a.stamp.l b.stamp.l) [
    | inl l ↦ lower_c l differ
    | inr other ↦ elim other [
      | inl lt ↦ inl (inl lt)
      | inr gt ↦ absurd (not_lower (inl (inl gt)))
    ]
  ]

-- a pair isn't below itself
not_below_itself : (p q : Pair) → p ≡ q → ¬ IsBelow p q
not_below_itself p q same below =
    let l : p.l ≡ q.l = ap (λ (r : Pair). r.l) same in
    let c : p.c ≡ q.c = ap (λ (r : Pair). r.c) same in
    elim below [ inl lt ↦ absurd (omega arith) | inr level ↦ absurd (omega (arith, level.1)) ]

module _ (log : LogInOrder) (ticks : log.receives ≡ Tick) (ordered : IsInOrder log) where
  abbrev rules : ClockRules
  rules = rules_in log.receives log.events log.order

  abbrev clocks : Skeleton
  clocks = clock_skeleton (clocks_of log)

  -- each event ticks
  ticks_by : (rule : Option EventRule) → IfSome rule (λ r. r.ticks ≡ true) → (x : SkeletonEvent) → (event_by log.receives rule x).ticks ≡ true
  ticks_by None own x = ticks_by_rule x log.receives ∙ ap (rule_ticks (is_some x.send)) ticks ∙ by_test (is_some x.send)
    where
      by_test : (test : Bool) → rule_ticks test Tick ≡ true
      by_test true = refl
      by_test false = refl
  ticks_by (Some rule) own x = own

  own_ticks : (event : LogEvent) (k : LogKind) → IfSome (rule_by log.receives event k) (λ r. r.ticks ≡ true)
  own_ticks event kind.Local = tt
  own_ticks event (kind.Send m) = tt
  own_ticks event (kind.Receive m) = tt
  own_ticks event kind.Restart = refl
  own_ticks event kind.Outside = ap (λ (r : Receives). (receive_at r event.reading).ticks) ticks

  each_ticks : (k : ℕ) → k < length (skeleton_of log) → (clock_event_at (clocks_of log) k).ticks ≡ true
  each_ticks k lt =
      let within : k < length log.order = omega (arith, lt, length-skeleton_in log.events log.order ordered.causal) in
      let event = event_in_order log.events log.order k in
      let own = subst (λ (o : Option EventRule). IfSome o (λ r. r.ticks ≡ true)) (sym (own_in log.events log.order ordered.causal log.receives k within))
      (own_ticks event event.kind) in
      ap (λ (y : ClockEvent). y.ticks) (clock_events_at rules (skeleton_of log) k lt) ∙ ticks_by (own_at rules k) own (skeleton_at (skeleton_of log) k)

  -- so least stamps rise along happened-before
  rises : (p q : ℕ) → q < length (skeleton_of log) → HappenedBefore clocks p q → IsBelow (pair_at log.least p) (pair_at log.least q)
  rises p q exists before =
      let last = (last_step_is_direct clocks p q).0 before in
      let d = last.0 in
      let there : q < length (clocks_of log) = omega (arith, exists, clock_events_size rules (skeleton_of log)) in
      let follows = subst (λ (b : Bool). Follows b (pair_at log.least d) (pair_at log.least q)) (each_ticks q exists)
      ((ordered.least.feasible.each q there).follows d last.2) in
      let low : IsAtMost (pair_at log.least p) (pair_at log.least d) =
      elim last.1 [
        | inl same ↦ subst (λ (n : ℕ). IsAtMost (pair_at log.least p) (pair_at log.least n)) same (at_most_itself (pair_at log.least p))
        | inr earlier ↦ feasible_never_falls (clocks_of log) log.least ordered.least.feasible p d earlier
      ] in
      at_most_below (pair_at log.least p) (pair_at log.least d) (pair_at log.least q) low follows

  -- what happened earlier at a node, or is received, has the lower stamp
  needed_below : (p q : ℕ) → p < length log.order → q < length log.order → Needs log.events (place_at log.order q) (place_at log.order p)
      → IsBelow (pair_at log.least p) (pair_at log.least q)
  needed_below p q p_lt q_lt (inl earlier) =
      let here = earlier_from_order log.events log.order ordered.causal p q p_lt q_lt earlier in
      rises p q here.exists ([], inl (earlier_kept (skeleton_of log) clocks (same_links rules (skeleton_of log)) p q here))
  needed_below p q p_lt q_lt (inr sends) =
      let here = send_from_order log.events log.order ordered.causal ordered.messages.once p q p_lt q_lt sends in
      rises p q here.exists ([], inr (send_kept (skeleton_of log) clocks (same_links rules (skeleton_of log)) p q here))

  module _ (rows sorted : List Row) (are : AreRows log (length log.events) rows) (moved : IsPermutation rows sorted) (up : IsSortedBy row_lt sorted)
      (compared : RanksAreCompared) (ids : List EventId) (ids_are : ids ≡ map (λ (row : Row). row.place) sorted) where
    size : length sorted ≡ length log.events
    size = length_permutation rows sorted moved ∙ are.one_each

    places_size : length (places_of ids) ≡ length log.events
    places_size = length-map ids (λ (id : EventId). id.0) ∙ ap (λ (xs : List EventId). length xs) ids_are ∙ length-map sorted (λ (row : Row). row.place) ∙ size

    place_here : (k : ℕ) → k < length sorted → place_at (places_of ids) k ≡ (row_at sorted k).place.0
    place_here k lt =
        let same = ap (λ (xs : List EventId). length xs) ids_are ∙ length-map sorted (λ (row : Row). row.place) in
        get_or-map (λ (id : EventId). id.0) ids k (record { 0 = 0 }) 0 (omega arith)
        ∙ ap (λ (xs : List EventId). (get_or xs k (record { 0 = 0 })).0) ids_are
        ∙ ap (λ (id : EventId). id.0) (get_or-map (λ (row : Row). row.place) sorted k no_row (record { 0 = 0 }) lt)

    -- the position of the event in a row
    old : (k : ℕ) → k < length sorted → (p : ℕ) × (p < length log.order) × IsRow log p (row_at sorted k)
    old k lt =
        let total = order_len log.events log.order ordered.causal in
        let found = Contains-permutation sorted rows (row_at sorted k) (IsPermutation-sym rows sorted moved) (k, lt, get_or_default sorted k (row_at sorted k) no_row lt) in
        let count = are.one_each in
        let inside : found.0 < length rows = found.1 in
        let same : row_at rows found.0 ≡ row_at sorted k = get_or_default rows found.0 no_row (row_at sorted k) inside ∙ found.2 in
        (found.0, omega arith, subst (λ (row : Row). IsRow log found.0 row) same (are.each found.0 (omega arith)))

    -- the row of the event at a position
    new : (p : ℕ) → p < length log.order → (k : ℕ) × (k < length sorted) × IsRow log p (row_at sorted k)
    new p lt =
        let total = order_len log.events log.order ordered.causal in
        let count = are.one_each in
        let within : p < length rows = omega arith in
        let found = Contains-permutation rows sorted (row_at rows p) moved (p, within, get_or_default rows p (row_at rows p) no_row within) in
        let inside : found.0 < length sorted = found.1 in
        let same : row_at rows p ≡ row_at sorted found.0 = sym (get_or_default sorted found.0 no_row (row_at rows p) inside ∙ found.2) in
        (found.0, inside, subst (λ (row : Row). IsRow log p row) same (are.each p (omega arith)))

    abbrev same_place : Row → Row → Bool
    same_place a b = eqb a.place.0 b.place.0

    flips : (a b : Row) → same_place a b ≡ same_place b a
    flips a b = elim (cases_eq a.place.0 b.place.0) [
      | inl same ↦ eq-eqb a.place.0 b.place.0 same ∙ sym (eq-eqb b.place.0 a.place.0 (sym same))
      | inr differ ↦ ne_eqb a.place.0 b.place.0 differ ∙ sym (ne_eqb b.place.0 a.place.0 (λ same. differ (sym same)))
    ]

    rows_apart : IsDistinct same_place rows
    rows_apart = IsDistinct-from_apart same_place rows (λ i k d lt within.
        let count = are.one_each in
        let total = order_len log.events log.order ordered.causal in
        let first = are.each i (omega arith) in
        let second = are.each k (omega arith) in
        let one : (get_or rows i d).place.0 ≡ place_at log.order i = ap (λ (row : Row). row.place.0) (get_or_default rows i d no_row (omega arith)) ∙ first.place in
        let other : (get_or rows k d).place.0 ≡ place_at log.order k = ap (λ (row : Row). row.place.0) (get_or_default rows k d no_row (omega arith)) ∙ second.place in
        ne_eqb (get_or rows i d).place.0 (get_or rows k d).place.0 (λ same.
        places_differ log.events log.order ordered.causal.causal i k lt (omega arith) (sym one ∙ same ∙ other)))

    differ : (i k : ℕ) → i < k → k < length sorted → (row_at sorted i).place.0 ≢ (row_at sorted k).place.0
    differ i k lt within same =
        let apart = apart_from_distinct same_place sorted i k no_row (IsDistinct-IsPermutation same_place flips rows sorted moved rows_apart) lt within in
        let equal = eq-eqb (row_at sorted i).place.0 (row_at sorted k).place.0 same in
        let bad : true ≡ false = sym equal ∙ apart in
        absurd (cc)

    -- a lower rank stands before
    before : (i k : ℕ) → i < length sorted → k < length sorted → IsOutranked (row_at sorted i).rank (row_at sorted k).rank → i < k
    before i k i_lt k_lt lower = elim (cases_lt i k) [
      | inl lt ↦ lt
      | inr past ↦
          let up_to = sorted_far row_lt rows_compare sorted up k i no_row past i_lt in
          let yes = (compared (row_at sorted i).rank (row_at sorted k).rank).1 lower in
          let bad : true ≡ false = sym yes ∙ up_to in
          absurd (cc)
    ]

    needed_before : (k e : ℕ) → k < length sorted → e < length log.events → Needs log.events (place_at (places_of ids) k) e → Contains (take k (places_of ids)) e
    needed_before k e lt exists needs =
        let count = size in
        let all = places_size in
        let from = place_of_index log.events log.order ordered.causal e exists in
        let q = index_in log.order e in
        let at = old k lt in
        let place : place_at log.order at.0 ≡ place_at (places_of ids) k = sym (at.2.place) ∙ sym (place_here k lt) in
        let below = needed_below q at.0 from.0 at.1
        (subst (λ (f : ℕ). Needs log.events f (place_at log.order q)) (sym place) (subst (Needs log.events (place_at (places_of ids) k)) (sym from.1) needs)) in
        let there = new q from.0 in
        let lower : IsOutranked (row_at sorted there.0).rank (row_at sorted k).rank =
        inl (subst (λ (r : Rank). IsBelow r.stamp (row_at sorted k).rank.stamp) (sym there.2.rank)
        (subst (λ (r : Rank). IsBelow (pair_at log.least q) r.stamp) (sym at.2.rank) below)) in
        let first = before there.0 k there.1 lt lower in
        let here : place_at (places_of ids) there.0 ≡ e = place_here there.0 there.1 ∙ there.2.place ∙ from.1 in
        subst (Contains (take k (places_of ids))) here (contained_before log.events (places_of ids) there.0 k first (omega arith))

    needs_event : (f e : ℕ) → Needs log.events f e → e < length log.events
    needs_event f e (inl earlier) = earlier.first_exists
    needs_event f e (inr (m, sends, receives)) = sends.exists

    pub sorted_is_causal : IsCausalOrder log.events (places_of ids)
    sorted_is_causal = record {
      causal = λ k lt.
          let count = size in
          let all = places_size in
          let within : k < length sorted = omega arith in
          let at = old k within in
          record {
            exists =
                subst (λ (e : ℕ). e < length log.events) (sym (at.2.place) ∙ sym (place_here k within))
                (place_exists log.events log.order ordered.causal at.0 at.1);
            new = λ inside.
                let found = place_of_contained log.events (places_of ids) k (place_at (places_of ids) k) (omega arith) inside in
                let earlier : found.0 < length sorted = omega (arith, found.1) in
                differ found.0 k found.1 within (sym (place_here found.0 earlier) ∙ found.2 ∙ place_here k within);
            needed = λ e needs. needed_before k e within (needs_event (place_at (places_of ids) k) e needs) needs;
          };
      all = λ e exists.
          let count = size in
          let all = places_size in
          let from = place_of_index log.events log.order ordered.causal e exists in
          let there = new (index_in log.order e) from.0 in
          let here : place_at (places_of ids) there.0 ≡ e = place_here there.0 there.1 ∙ there.2.place ∙ from.1 in
          let inside : there.0 < length (places_of ids) = omega (arith, there.1) in
          (there.0, inside, get_or_default (places_of ids) there.0 e 0 inside ∙ here);
    }

    pub sorted_is_ranked : AreRanked log (places_of ids)
    sorted_is_ranked j k p q lt within p_lt q_lt p_is q_is =
        let count = size in
        let all = places_size in
        let j_lt : j < length sorted = omega arith in
        let k_lt : k < length sorted = omega arith in
        let first = old j j_lt in
        let second = old k k_lt in
        let p_same : first.0 ≡ p = same_position log.events log.order ordered.causal first.0 p first.1 p_lt
        (sym first.2.place ∙ sym (place_here j j_lt) ∙ sym p_is) in
        let q_same : second.0 ≡ q = same_position log.events log.order ordered.causal second.0 q second.1 q_lt
        (sym second.2.place ∙ sym (place_here k k_lt) ∙ sym q_is) in
        let p_rank : (row_at sorted j).rank ≡ rank_at log p = first.2.rank ∙ ap (rank_at log) p_same in
        let q_rank : (row_at sorted k).rank ≡ rank_at log q = second.2.rank ∙ ap (rank_at log) q_same in
        let up_to = sorted_far row_lt rows_compare sorted up j k no_row (omega arith) k_lt in
        let up_here : is_lt (rank_cmp (rank_at log q) (rank_at log p)) ≡ false =
        ap (λ (r : Rank). is_lt (rank_cmp r (rank_at log p))) (sym q_rank) ∙ ap (λ (r : Rank). is_lt (rank_cmp (row_at sorted k).rank r)) (sym p_rank) ∙ up_to in
        let apart : p ≢ q = λ same.
        differ j k lt k_lt (first.2.place ∙ ap (place_at log.order) (p_same ∙ same ∙ sym q_same) ∙ sym second.2.place) in
        not_after compared (rank_at log p) (rank_at log q) up_here (λ stamps nodes. elim (cases_order p q) [
          | inl same ↦ apart same
          | inr other ↦ elim other [
            | inl earlier ↦
                not_below_itself (pair_at log.least p) (pair_at log.least q) stamps
                (needed_below p q p_lt q_lt (inl (earlier_of log.events log.order ordered.causal p q earlier q_lt nodes)))
            | inr later ↦
                not_below_itself (pair_at log.least q) (pair_at log.least p) (sym stamps)
                (needed_below q p q_lt p_lt (inl (earlier_of log.events log.order ordered.causal q p later p_lt (sym nodes))))
          ]
        ])

-- in a new order the stamps are those of the old one
module _ (log new : LogInOrder) (clocks : new.receives ≡ log.receives) (ordered : IsInOrder log) (new_ordered : IsInOrder new)
    (same : new.events ≡ log.events) where
  causal : IsCausalOrder log.events new.order
  causal = subst (λ (events : List LogEvent). IsCausalOrder events new.order) same new_ordered.causal

  least : IsLeastFeasible (clock_events (rules_in log.receives log.events new.order) (skeleton_in log.events new.order)) new.least
  least =
      subst (λ r. IsLeastFeasible (clock_events (rules_in r log.events new.order) (skeleton_in log.events new.order)) new.least) clocks
      (subst (λ (events : List LogEvent). IsLeastFeasible (clock_events (rules_in new.receives events new.order) (skeleton_in events new.order)) new.least) same new_ordered.least)

  -- where the event at a new position stood
  abbrev old_position : ℕ → ℕ
  old_position j = index_in log.order (place_at new.order j)

  stood : (j : ℕ) → j < length new.order → (old_position j < length log.order) × (place_at log.order (old_position j) ≡ place_at new.order j)
  stood j lt = place_of_index log.events log.order ordered.causal (place_at new.order j) (place_exists log.events new.order causal j lt)

  same_rank : (j : ℕ) → j < length new.order → rank_at log (old_position j) ≡ rank_at new j
  same_rank j lt =
      let at = stood j lt in
      let stamp : pair_at log.least (old_position j) ≡ pair_at new.least j =
      causal_orders_agree log.receives log.events ordered.messages.once log.order new.order ordered.causal causal log.least new.least ordered.least least
      (old_position j) j at.0 lt at.1 in
      let node : (event_in_order log.events log.order (old_position j)).node ≡ (event_in_order new.events new.order j).node =
      ap (λ (e : ℕ). (event_at log.events e).node) at.1 ∙ ap (λ (events : List LogEvent). (event_at events (place_at new.order j)).node) (sym same) in
      λ i. record { stamp = stamp i; node = node i }

  pub stays_ranked : AreRanked log new.order → IsInStampOrder new
  stays_ranked ranked j k lt within =
      let total = order_len log.events new.order causal in
      let count = ap (λ (events : List LogEvent). length events) same in
      let j_lt : j < length new.order = omega arith in
      let k_lt : k < length new.order = omega arith in
      let first = stood j j_lt in
      let second = stood k k_lt in
      subst (λ (r : Rank). IsOutranked r (rank_at new k)) (same_rank j j_lt)
      (subst (λ (r : Rank). IsOutranked (rank_at log (old_position j)) r) (same_rank k k_lt)
      (ranked j k (old_position j) (old_position k) lt k_lt first.0 second.0 first.1 second.1))
