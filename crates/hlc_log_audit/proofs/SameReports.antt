-- The reports on logs with the same events in different orders.
use Rattle.hlc_log_text.specs.declared.file_mark.FileMark.{FileMark}
use Rattle.hlc_log_text.specs.Files.{line_text}
use Rattle.hlc_log_audit.specs.Answers.{told_in}
use Rattle.std.proofs.Common.{◌≡◌, Bool, true, false, ◌∙◌, ℕ, suc, ◌==◌, ◌<◌, inl, inr, List, [], ◌∷◌, ◌++◌, length, map, Option, Some, None, arith, refl, subst, sym, ap}
use Rattle.std.specs.Prelude.{◌-ℤ◌, All, IfSome, codes, decimal, if◌then◌else◌, option_map, pos, slice_index_or}
use Rattle.std.specs.Bool.{then_some}
use Rattle.std.specs.Fmt.{signed_decimal}
use Rattle.std.specs.List.{flat_map}
use Rattle.std.specs.List.Sorted.{IsPermutation, IsStrictlySortedBy}
use Rattle.std.specs.Map.{keys_of, values_of}
use Rattle.std.proofs.lemmas.Bool.{cases_order}
use Rattle.std.proofs.lemmas.Cmp.{eq_by_cmp_equiv}
use Rattle.std.proofs.lemmas.Map.Keys.{IsDistinct-from_sorted}
use Rattle.std.proofs.lemmas.Map.Views.{All-values_from_lookup}
use Rattle.std.proofs.lemmas.List.Sorted.{IsPermutation-append_left, IsPermutation-append_right}
use Rattle.hlc_stamp.specs.declared.id.EventId.{EventId}
use Rattle.hlc_stamp.specs.Order.{Pair}
use Rattle.hlc_causality.specs.Causality.{IsSendOf, Skeleton, SkeletonEvent, skeleton_at}
use Rattle.hlc_causality.specs.Places.{places_below}
use Rattle.hlc_causality.proofs.Predecessors.{send_is_unique}
use Rattle.hlc_causes.specs.Causes.{no_causes}
use Rattle.hlc_causes.specs.declared.answers.Cause.{Cause}
use Rattle.hlc_causes.specs.declared.answers.Cause.TheVariants.{Ahead, Behind, NotAbovePrevious, NotAboveSend}
use Rattle.hlc_causes.specs.declared.answers.Causes.{Causes}
use Rattle.hlc_csv.specs.Rows.{Fields}
use Rattle.hlc_log.specs.declared.log_event.LogEvent.{LogEvent}
use Rattle.hlc_log.specs.Events.{event_at}
use Rattle.hlc_log.proofs.CausalOrders.{place_in_order}
use Rattle.hlc_log_text.specs.LogText.{name_of}
use Rattle.hlc_ordered_log.specs.Counts.{are_all_ahead}
use Rattle.hlc_ordered_log.specs.Found.{AreCauses, NameEvents, NamesCausesIn, is_swapped_in, swapped_at, wrong_at}
use Rattle.hlc_ordered_log.specs.InOrder.{LogInOrder, reading_told, skeleton_of, wrong_of}
use Rattle.hlc_ordered_log.specs.Messages.{message_counts}
use Rattle.hlc_ordered_log.specs.Moved.{moved_causes, moved_event, moved_skew}
use Rattle.hlc_ordered_log.specs.Laws.{KeepsTold}
use Rattle.hlc_ordered_log.specs.Reordered.{IsRearranged}
use Rattle.hlc_ordered_log.specs.Skew.{AreSkews, IsSkewBefore, NamesSkewBefore, Skews, by_nodes, skew_between}
use Rattle.hlc_ordered_log.specs.declared.counts.Counts.{Counts}
use Rattle.hlc_ordered_log.specs.declared.messages.MessageCounts.{MessageCounts}
use Rattle.hlc_ordered_log.specs.declared.skew.Skew.{Skew}
use Rattle.hlc_ordered_log.specs.declared.skew_nodes.SkewNodes.{SkewNodes}
use Rattle.hlc_ordered_log.proofs.EventsInOrder.{length-clocks_of, length-skeleton_of}
use Rattle.hlc_ordered_log.proofs.Ordering.{order_len}
use Rattle.hlc_ordered_log.proofs.Rearranged.{counts_agree, event_moved, event_same, messages_agree, moved, moved_back, moved_exists, one_log, reordered, same_size, tell_the_same, unit_factors_agree}
use Rattle.hlc_ordered_log.proofs.ReorderedTraces.{moved_there, reordering_keeps_skews}
use Rattle.hlc_ordered_log.proofs.SeenTraces.{causes_agree, wrong_agrees}
use Rattle.hlc_ordered_log.proofs.Swaps.{swaps_agree}
use Rattle.hlc_ordered_log.proofs.SkewOrder.{by_nodes_total, same_keys, same_skews, told_between, told_by}
use Rattle.hlc_ordered_log.proofs.SamePlaces.{count_list_moved, flat_moved}
use Rattle.hlc_log_audit.specs.Answers.{drift_fields, drift_in}
use Rattle.hlc_log_audit.proofs.SameAnswers.{line_moved, node_moved, same_drift, same_node}
use Rattle.hlc_log_audit.proofs.RowsOfPlaces.{flat_map-same}
use Rattle.hlc_log_audit.specs.Laws.{RearrangedReportsAgree, ReportsAgree}
use Rattle.hlc_log_audit.specs.Report.{AreSkewRows, IsSkewOfEvents, cause_fields, cause_row, cause_rows, cause_rows_at, count_rows, events_at, message_row, factor_row, node_row, node_rows, skew_row, swapped_fields, unit_rows, wrong_row}
use Rattle.hlc_ordered_log.proofs.PlacedCauses.{names_events, wrong_exists}
use Rattle.hlc_log_audit.proofs.EventsInOrder.{same_causes, skew_of_events}
use Rattle.hlc_log.specs.OrderSkeleton.{index_in}
use Rattle.hlc_log.proofs.OrderSkeletons.{place_of_index}

-- a skew is the only one that the messages between two nodes show
module _ (s : Skeleton) (told : ℕ → Bool) (n from to : ℕ) where
  none_earlier : (a b : Skew) → IsSkewBefore s told n from to a → IsSkewBefore s told n from to b → ¬ (a.delivery.0 < b.delivery.0)
  none_earlier a b p q lt =
      let less = q.first a.send.0 a.delivery.0 lt p.message in
      let most = p.none_greater b.send.0 b.delivery.0 q.before q.message in
      let sent = p.sent_at in
      let delivered = p.delivered_at in
      let other_sent = q.sent_at in
      let other_delivered = q.delivered_at in
      omega arith

  same_delivery : (a b : Skew) → IsSkewBefore s told n from to a → IsSkewBefore s told n from to b → a.delivery.0 ≡ b.delivery.0
  same_delivery a b p q = elim (cases_order a.delivery.0 b.delivery.0) [
    | inl same ↦ same
    | inr differ ↦ elim differ [ inl lt ↦ absurd (none_earlier a b p q lt) | inr gt ↦ absurd (none_earlier b a q p gt) ]
  ]

  same_skew : (a b : Skew) → IsSkewBefore s told n from to a → IsSkewBefore s told n from to b → a ≡ b
  same_skew a b p q =
      let delivery = same_delivery a b p q in
      let send : a.send.0 ≡ b.send.0 =
      send_is_unique s a.send.0 b.send.0 b.delivery.0 (subst (IsSendOf s a.send.0) delivery p.message.sent.send) q.message.sent.send in
      let sent_at : a.sent_at ≡ b.sent_at = p.sent_at ∙ ap (λ (e : ℕ). (skeleton_at s e).reading) send ∙ sym q.sent_at in
      let delivered_at : a.delivered_at ≡ b.delivered_at = p.delivered_at ∙ ap (λ (e : ℕ). (skeleton_at s e).reading) delivery ∙ sym q.delivered_at in
      λ i. record { send = record { 0 = send i }; delivery = record { 0 = delivery i }; sent_at = sent_at i; delivered_at = delivered_at i }

  one_skew : (a b : Option Skew) → NamesSkewBefore s told n from to a → NamesSkewBefore s told n from to b → a ≡ b
  one_skew None None p q = refl
  one_skew None (Some b) p q = absurd (p b.send.0 b.delivery.0 q.before q.message)
  one_skew (Some a) None p q = absurd (q a.send.0 a.delivery.0 p.before p.message)
  one_skew (Some a) (Some b) p q = ap (λ (skew : Skew). Some skew) (same_skew a b p q)

-- what holds of a place that is named
named_if : {P : ℕ → Type 0} (o : Option ℕ) → ((d : ℕ) → o ≡ Some d → P d) → IfSome o P
named_if None each = tt
named_if (Some d) each = each d refl

module _ (log other : LogInOrder) (to back : ℕ → ℕ) (h : IsRearranged log other to back) where
  abbrev to_there : ℕ → ℕ
  to_there = moved log other to back h

  seen : (k : ℕ) → k < length log.events → k < length (skeleton_of log)
  seen k lt = let size = length-skeleton_of log h.ordered in omega arith

  same_events_at : (node : ℕ) → events_at other node ≡ events_at log node
  same_events_at node =
      let none : SkeletonEvent = record { node = 0; reading = 0; send = None } in
      count_list_moved (λ (x : SkeletonEvent). x.node == node) none (length (skeleton_of log)) to_there (moved_back log other to back h)
      (moved_exists log other to back h) (reordered log other to back h).back_here (skeleton_of log) (skeleton_of other) refl
      (same_size log other to back h) (λ k lt. ap (λ (x : ℕ). x == node) (node_moved log other to back h k lt))

  module _ (files : List FileMark) (nodes : List (List ℕ)) where
    same_node_row : (node : ℕ) → node_row files nodes other node ≡ node_row files nodes log node
    same_node_row node =
        ap (λ (n : ℕ). codes "node" ∷ name_of nodes node ∷ decimal n ∷ drift_fields files other (drift_in other node)) (same_events_at node)
        ∙ ap (λ (fields : Fields). codes "node" ∷ name_of nodes node ∷ decimal (events_at log node) ∷ fields) (same_drift log other to back h files node)

    same_node_rows : node_rows files nodes other ≡ node_rows files nodes log
    same_node_rows = λ i. map (λ (node : ℕ). same_node_row node i) (places_below (length nodes))

    -- causes
    module _ (full : ℕ) where
      abbrev cause_with : LogEvent → Fields → List Fields
      cause_with event fields = (codes "cause" ∷ line_text files event.line ∷ name_of nodes event.node.0 ∷ fields) ∷ []

      behind_moved : (e : ℕ) → e < length log.events → (is : Bool)
          → cause_row files nodes other full (to e) (then_some is Behind) ≡ cause_row files nodes log full e (then_some is Behind)
      behind_moved e lt true = ap (λ (x : LogEvent). cause_with x (cause_fields files log false Behind)) (event_same log other to back h e lt)
      behind_moved e lt false = refl

      not_above_moved : (e : ℕ) → e < length log.events → (d : EventId) → d.0 < length log.events → (rest : Fields)
          → cause_with (event_at other.events (to e)) (codes "not-above" ∷ told_in files other (to_there d.0) ∷ rest)
          ≡ cause_with (event_at log.events e) (codes "not-above" ∷ told_in files log d.0 ∷ rest)
      not_above_moved e lt d named rest =
          ap (λ (x : LogEvent). cause_with x (codes "not-above" ∷ told_in files other (to_there d.0) ∷ rest)) (event_same log other to back h e lt)
          ∙ ap (λ (line : ℕ). cause_with (event_at log.events e) (codes "not-above" ∷ line_text files line ∷ rest)) (line_moved log other to back h d.0 named)

      swapped_moved : (e : ℕ) → e < length log.events → swapped_at other full (to e) ≡ swapped_at log full e
      swapped_moved e lt =
          let at = place_of_index log.events log.order h.ordered.causal e lt in
          ap (λ (x : ℕ). is_swapped_in other full (index_in other.order (to x))) (sym at.1)
          ∙ swaps_agree log other to back (tell_the_same log other to back h) full (index_in log.order e) at.0

      abbrev of_previous : Option EventId → Option Cause
      of_previous found = option_map (λ d. NotAbovePrevious d) found

      previous_moved : (e : ℕ) → e < length log.events → (found : Option EventId) → IfSome found (λ d. d.0 < length log.events)
          → cause_row files nodes other full (to e) (of_previous (option_map (moved_event to_there) found)) ≡ cause_row files nodes log full e (of_previous found)
      previous_moved e lt None named = refl
      previous_moved e lt (Some d) named =
          ap (λ (swapped : Bool). cause_with (event_at other.events (to e)) (codes "not-above" ∷ told_in files other (to_there d.0) ∷ swapped_fields swapped))
          (swapped_moved e lt)
          ∙ not_above_moved e lt d named (swapped_fields (swapped_at log full e))

      abbrev of_send : Option EventId → Option Cause
      of_send found = option_map (λ d. NotAboveSend d) found

      send_moved : (e : ℕ) → e < length log.events → (found : Option EventId) → IfSome found (λ d. d.0 < length log.events)
          → cause_row files nodes other full (to e) (of_send (option_map (moved_event to_there) found)) ≡ cause_row files nodes log full e (of_send found)
      send_moved e lt None named = refl
      send_moved e lt (Some d) named = not_above_moved e lt d named []

      ahead_moved : (e : ℕ) → e < length log.events → (found : Option Pair)
          → cause_row files nodes other full (to e) (option_map (λ p. Ahead p) found) ≡ cause_row files nodes log full e (option_map (λ p. Ahead p) found)
      ahead_moved e lt None = refl
      ahead_moved e lt (Some p) = ap (λ (x : LogEvent). cause_with x (cause_fields files log false (Ahead p))) (event_same log other to back h e lt)

      wrong_row_moved : (e : ℕ) → e < length log.events → (found : Option ℕ) → IfSome found (λ d. d < length log.events)
          → wrong_row files nodes other (to e) (option_map to_there found) ≡ wrong_row files nodes log e found
      wrong_row_moved e lt None named = refl
      wrong_row_moved e lt (Some d) named =
          ap (λ (x : LogEvent). cause_with x (codes "carried" ∷ told_in files other (to_there d) ∷ [])) (event_same log other to back h e lt)
          ∙ ap (λ (line : ℕ). cause_with (event_at log.events e) (codes "carried" ∷ line_text files line ∷ [])) (line_moved log other to back h d named)

      wrong_moved : (e : ℕ) → e < length log.events
          → wrong_row files nodes other (to e) (wrong_at other (to e)) ≡ wrong_row files nodes log e (wrong_at log e)
      wrong_moved e lt =
          let at = place_of_index log.events log.order h.ordered.causal e lt in
          let k = index_in log.order e in
          let places = order_len log.events log.order h.ordered.causal in
          ap (λ (x : ℕ). wrong_row files nodes other (to e) (wrong_of other (index_in other.order (to x)))) (sym at.1)
          ∙ ap (wrong_row files nodes other (to e)) (wrong_agrees log other to back (tell_the_same log other to back h) k at.0)
          ∙ wrong_row_moved e lt (wrong_at log e) (named_if (wrong_at log e) (wrong_exists log h.ordered k (omega (arith, at.0, places))))

      rows_moved : (e : ℕ) → e < length log.events → (found : Causes) → NameEvents log found
          → cause_rows_at files nodes other full (to e) (moved_causes to_there found) ≡ cause_rows_at files nodes log full e found
      rows_moved e lt found named =
          let behind = behind_moved e lt found.behind in
          let previous = previous_moved e lt found.not_above_previous named.previous in
          let send = send_moved e lt found.not_above_send named.send in
          let ahead = ahead_moved e lt found.ahead in
          let wrong = wrong_moved e lt in
          λ i. behind i ++ (previous i ++ (send i ++ (ahead i ++ wrong i)))

      module _ (causes others : List Causes) (are : AreCauses log full causes) (others_are : AreCauses other full others) where
        pub cause_rows_moved : (e : ℕ) → e < length log.events
            → cause_rows_at files nodes other full (to e) (slice_index_or others (to e) no_causes) ≡ cause_rows_at files nodes log full e (slice_index_or causes e no_causes)
        cause_rows_moved e lt =
            let at = place_in_order log.events log.order e (h.ordered.causal.all e lt) in
            let k = at.0 in
            let places = order_len log.events log.order h.ordered.causal in
            let k_lt : k < length log.events = omega (arith, at.1) in
            let found = slice_index_or causes e no_causes in
            let names : NamesCausesIn log full k found = are.each e lt k at.1 at.2 in
            let there = moved_there log other to back (tell_the_same log other to back h) k at.1 in
            let other_names = others_are.each (to e) (h.there e lt) (to_there k) there.0 (there.1 ∙ ap to at.2) in
            let same =
            same_causes other full (to_there k) (omega (arith, (reordered log other to back h).there.exists k (seen k k_lt), length-clocks_of other))
            (slice_index_or others (to e) no_causes) (moved_causes to_there found) other_names
            (causes_agree log other to back (tell_the_same log other to back h) full k found at.1 names) in
            ap (cause_rows_at files nodes other full (to e)) same ∙ rows_moved e lt found (names_events log h.ordered full k found k_lt names)

    -- skews
    skew_row_moved : (found : SkewNodes × Skew) → IsSkewOfEvents log found.1
        → skew_row files nodes other (found.0, moved_skew to_there found.1) ≡ skew_row files nodes log found
    skew_row_moved (between, skew) exist =
        let shown = signed_decimal (pos skew.sent_at -ℤ pos skew.delivered_at) in
        let from = name_of nodes between.from.0 in
        let node = name_of nodes between.to.0 in
        ap (λ (line : ℕ). codes "skew" ∷ from ∷ node ∷ shown ∷ line_text files line ∷ told_in files other (to_there skew.delivery.0) ∷ [])
        (line_moved log other to back h skew.send.0 exist.send)
        ∙ ap (λ (line : ℕ). codes "skew" ∷ from ∷ node ∷ shown ∷ told_in files log skew.send.0 ∷ line_text files line ∷ [])
        (line_moved log other to back h skew.delivery.0 exist.delivery)

    skew_rows_moved : (skews : Skews) → All (IsSkewOfEvents log) (values_of skews)
        → map (skew_row files nodes other) (told_by (moved_skew to_there) skews) ≡ map (skew_row files nodes log) skews
    skew_rows_moved [] exist = refl
    skew_rows_moved (x ∷ xs) exist =
        let first = skew_row_moved x (exist 0 x.1 (omega arith)) in
        let rest = skew_rows_moved xs (λ k none lt. exist (suc k) none (omega (arith, lt))) in
        λ i. first i ∷ rest i

    same_told : KeepsTold (skeleton_of log) to_there (reading_told log) (reading_told other)
    same_told k lt = ap (λ (x : LogEvent). x.has_reading) (event_moved log other to back h k lt)

    module _ (skews others : Skews) (are : AreSkews (skeleton_of log) (reading_told log) skews)
        (others_are : AreSkews (skeleton_of other) (reading_told other) others) where
      same_between : (q : SkewNodes) → skew_between others q ≡ skew_between (told_by (moved_skew to_there) skews) q
      same_between q =
          let from = q.from.0 in
          let node = q.to.0 in
          let found = skew_between skews q in
          let kept =
          reordering_keeps_skews (skeleton_of log) (skeleton_of other) to_there (moved_back log other to back h) (reordered log other to back h)
          (reading_told log) (reading_told other) same_told from node from node (same_node log other to back h from) (same_node log other to back h node) found (are.each q) in
          one_skew (skeleton_of other) (reading_told other) (length (skeleton_of other)) from node (skew_between others q) (option_map (moved_skew to_there) found)
          (others_are.each q) kept
          ∙ sym (told_between (moved_skew to_there) skews q)

      all_of_events : All (IsSkewOfEvents log) (values_of skews)
      all_of_events =
          All-values_from_lookup (eq_by_cmp_equiv by_nodes_total) (IsSkewOfEvents log) skews (IsDistinct-from_sorted by_nodes (keys_of skews) are.sorted)
          (λ q. skew_of_events log h.ordered (length (skeleton_of log)) q.from.0 q.to.0 (skew_between skews q) (are.each q))

      same_skew_rows : map (skew_row files nodes other) others ≡ map (skew_row files nodes log) skews
      same_skew_rows =
          ap (map (skew_row files nodes other))
          (same_skews others (told_by (moved_skew to_there) skews) others_are.sorted
          (subst (IsStrictlySortedBy by_nodes) (sym (same_keys (moved_skew to_there) skews)) are.sorted) same_between)
          ∙ skew_rows_moved skews all_of_events

    same_skews_told : (rows others : List Fields) → AreSkewRows files nodes log rows → AreSkewRows files nodes other others → others ≡ rows
    same_skews_told rows others (skews, are, is) (other_skews, others_are, others_is) = others_is ∙ same_skew_rows skews other_skews are others_are ∙ sym is

    same_units : (counts : Counts) → unit_rows counts other.events ≡ unit_rows counts log.events
    same_units counts =
        ap (λ (factor : Option ℕ). if are_all_ahead counts then factor_row factor else []) (unit_factors_agree log other to back h)

    -- all but the counts and the causes
    pub same_rest : (counts : Counts) (rows others : List Fields) → AreSkewRows files nodes log rows → AreSkewRows files nodes other others
        → node_rows files nodes other ++ (message_row (message_counts other) ∷ (others ++ unit_rows counts other.events))
        ≡ node_rows files nodes log ++ (message_row (message_counts log) ∷ (rows ++ unit_rows counts log.events))
    same_rest counts rows others are others_are =
        let units = unit_rows counts log.events in
        ap (λ (parts : List Fields). parts ++ (message_row (message_counts other) ∷ (others ++ unit_rows counts other.events))) same_node_rows
        ∙ ap (λ (last : List Fields). node_rows files nodes log ++ (message_row (message_counts other) ∷ (others ++ last))) (same_units counts)
        ∙ ap (λ (messages : MessageCounts). node_rows files nodes log ++ (message_row messages ∷ (others ++ units))) (messages_agree log other to back h)
        ∙ ap (λ (skews : List Fields). node_rows files nodes log ++ (message_row (message_counts log) ∷ (skews ++ units))) (same_skews_told rows others are others_are)

-- one log
pub reports_agree : ReportsAgree
reports_agree files nodes log other full rows others ordered other_ordered clocks same report other_report =
    let h = one_log log other clocks ordered other_ordered same in
    let counts = counts_agree log other (λ e. e) (λ e. e) h full report.counts other_report.counts report.counted other_report.counted in
    let causes : cause_rows files nodes other full other_report.causes ≡ cause_rows files nodes log full report.causes =
    ap (λ (events : List LogEvent). flat_map (λ e. cause_rows_at files nodes other full e (slice_index_or other_report.causes e no_causes)) (places_below (length events))) same
    ∙ flat_map-same (λ e. cause_rows_at files nodes other full e (slice_index_or other_report.causes e no_causes))
    (λ e. cause_rows_at files nodes log full e (slice_index_or report.causes e no_causes)) (length log.events)
    (cause_rows_moved log other (λ e. e) (λ e. e) h files nodes full report.causes other_report.causes report.are_causes other_report.are_causes) in
    let rest = same_rest log other (λ e. e) (λ e. e) h files nodes report.counts report.skews other_report.skews report.are_skews other_report.are_skews in
    other_report.rows_are
    ∙ ap (λ (c : Counts). count_rows c ++ (cause_rows files nodes other full other_report.causes ++ (node_rows files nodes other
    ++ (message_row (message_counts other) ∷ (other_report.skews ++ unit_rows c other.events))))) counts
    ∙ ap (λ (r : List Fields). count_rows report.counts ++ (r ++ (node_rows files nodes other
    ++ (message_row (message_counts other) ∷ (other_report.skews ++ unit_rows report.counts other.events))))) causes
    ∙ ap (λ (r : List Fields). count_rows report.counts ++ (cause_rows files nodes log full report.causes ++ r)) rest
    ∙ sym report.rows_are

-- logs with the same events
pub rearranged_reports_agree : RearrangedReportsAgree
rearranged_reports_agree files nodes log other to back full rows others h report other_report =
    let counts = counts_agree log other to back h full report.counts other_report.counts report.counted other_report.counted in
    let row : ℕ → List Fields = λ e. cause_rows_at files nodes log full e (slice_index_or report.causes e no_causes) in
    let other_row : ℕ → List Fields = λ e. cause_rows_at files nodes other full e (slice_index_or other_report.causes e no_causes) in
    let rest = same_rest log other to back h files nodes report.counts report.skews other_report.skews report.are_skews other_report.are_skews in
    let tail : List Fields = node_rows files nodes log ++ (message_row (message_counts log) ∷ (report.skews ++ unit_rows report.counts log.events)) in
    let size = h.size in
    let causes : IsPermutation (flat_map row (places_below (length log.events))) (flat_map other_row (places_below (length other.events))) =
    subst (λ (n : ℕ). IsPermutation (flat_map row (places_below (length log.events))) (flat_map other_row (places_below n))) (sym size)
    (flat_moved (length log.events) to back (λ e lt. (let there = h.there e lt in omega arith)) h.back_here row other_row
    (cause_rows_moved log other to back h files nodes full report.causes other_report.causes report.are_causes other_report.are_causes)) in
    let both : IsPermutation (count_rows report.counts ++ (cause_rows files nodes log full report.causes ++ tail))
    (count_rows report.counts ++ (cause_rows files nodes other full other_report.causes ++ tail)) =
    IsPermutation-append_right (count_rows report.counts) (cause_rows files nodes log full report.causes ++ tail) (cause_rows files nodes other full other_report.causes ++ tail)
    (IsPermutation-append_left tail (cause_rows files nodes log full report.causes) (cause_rows files nodes other full other_report.causes) causes) in
    let others_are : others ≡ count_rows report.counts ++ (cause_rows files nodes other full other_report.causes ++ tail) =
    other_report.rows_are
    ∙ ap (λ (c : Counts). count_rows c ++ (cause_rows files nodes other full other_report.causes ++ (node_rows files nodes other
    ++ (message_row (message_counts other) ∷ (other_report.skews ++ unit_rows c other.events))))) counts
    ∙ ap (λ (r : List Fields). count_rows report.counts ++ (cause_rows files nodes other full other_report.causes ++ r)) rest in
    subst (λ (r : List Fields). IsPermutation r others) (sym report.rows_are)
    (subst (IsPermutation (count_rows report.counts ++ (cause_rows files nodes log full report.causes ++ tail))) (sym others_are) both)
