-- The answers about one log, in two causal orders.
use Rattle.hlc_log_text.specs.declared.file_mark.FileMark.{FileMark}
use Rattle.hlc_log_text.specs.Files.{line_at, line_text, location_text}
use Rattle.hlc_log_audit.specs.Answers.{told_in}
use Rattle.std.proofs.Common.{◌≡◌, ◌∙◌, ◌++◌, Bool, true, false, cond, ℕ, suc, ◌+◌, ◌==◌, ◌<◌, List, [], ◌∷◌, length, get_or, map, Option, Some, None, arith, refl, subst, sym, ap}
use Rattle.std.specs.Prelude.{All, Contains, IfSome, codes, decimal, option_map, position, unwrap_or}
use Rattle.std.specs.Option.{option_and_then}
use Rattle.std.specs.List.{IsDistinct}
use Rattle.std.specs.List.Sorted.{IsStrictlyIncreasing}
use Rattle.std.specs.Str.{bytes_eq}
use Rattle.std.proofs.Math.Dec.{eqb}
use Rattle.std.proofs.lemmas.Bool.{eq-eqb, eqb-true, ne_eqb}
use Rattle.std.proofs.lemmas.List.{get_or-map, get_or_default, length-map}
use Rattle.std.proofs.lemmas.List.Elements.{All-cons, All-nil}
use Rattle.std.proofs.lemmas.List.Kept.{AllPairs-from_increasing}
use Rattle.std.proofs.lemmas.List.Quantifiers.{position-Some}
use Rattle.std.proofs.lemmas.List.Sorted.{Contains-permutation, IsNonDecreasingBy-from_sort, IsPermutation-sym}
use Rattle.std.proofs.lemmas.Map.Keys.{IsDistinct-IsPermutation, IsDistinct-from_apart, IsStrictlyIncreasing-from_distinct}
use Rattle.hlc_stamp.specs.Order.{Pair}
use Rattle.hlc_causality.specs.Assignment.{pair_at}
use Rattle.hlc_causality.specs.Causality.{HappenedBefore, Skeleton, SkeletonEvent, skeleton_at}
use Rattle.hlc_causality.specs.ClockChain.{IsClockChain, ticks_among}
use Rattle.hlc_causality.specs.ClockEvents.{ClockEvents, clock_skeleton}
use Rattle.hlc_causality.specs.FollowedClockChains.{clock_chain_of, is_clock_explained_by}
use Rattle.hlc_causality.specs.Past.{LeadsTo}
use Rattle.hlc_causality.proofs.ClockChains.{ticks_among_more}
use Rattle.hlc_causality.proofs.ClockEvents.{skeleton_size}
use Rattle.hlc_causality.proofs.ClockExplanation.{clock_explained_is_tested}
use Rattle.hlc_causality.proofs.PlacesBelow.{contains_passing, passing_from_contains, passing_places_rise}
use Rattle.hlc_explain.specs.Findings.{IsRelationOf, influenced_by, relation_of}
use Rattle.hlc_explain.specs.Paths.{path_of}
use Rattle.hlc_explain.specs.Taints.{is_raised, tainted_by}
use Rattle.hlc_explain.specs.Words.{relation_word}
use Rattle.hlc_explain.specs.declared.answers.Drift.{Drift}
use Rattle.hlc_explain.specs.declared.answers.Missing.TheVariants as missing
use Rattle.hlc_explain.specs.declared.answers.Relation.{Relation}
use Rattle.hlc_explain.proofs.Findings.{influenced_are_found, relation_is, relations_are_found, rising_is_unique}
use Rattle.hlc_explain.specs.Answer.{Answer, answer_row, last_field, path_answer, set_answer, way_answer, word_answer}
use Rattle.hlc_explain.specs.EventQuestion as about
use Rattle.hlc_explain.specs.EventQuestion.{EventQuestion}
use Rattle.hlc_verdict.specs.declared.verdict.Verdict.TheVariants as verdict
use Rattle.hlc_causes.specs.declared.answers.Finding.{Finding}
use Rattle.hlc_causes.specs.declared.answers.Finding.TheVariants.{Judged, RolledOver}
use Rattle.hlc_csv.specs.Rows.{Fields, yes_or_no}
use Rattle.hlc_log.specs.declared.log_event.LogEvent.{LogEvent}
use Rattle.hlc_log.specs.CausalOrder.{place_at}
use Rattle.hlc_log.specs.Events.{event_at}
use Rattle.hlc_log.specs.Reordering.{HaveEqualPairs, IsClockReordering, IsReordering, IsSameNode}
use Rattle.hlc_log.proofs.CausalOrders.{place_in_order}
use Rattle.hlc_log.proofs.OrderSkeletons.{place_exists, same_position, skeleton_in_at}
use Rattle.hlc_log.proofs.ClockReorderedChains.{clock_reordering_keeps_chains}
use Rattle.hlc_log.proofs.Reorderings.{direct_kept, reordering_keeps_happened_before, turned}
use Rattle.hlc_ordered_log.specs.Found.{FindsAt}
use Rattle.hlc_ordered_log.specs.InOrder.{IsInOrder, LogInOrder, claimed_of, clocks_of, event_in_order, line_in, skeleton_of}
use Rattle.hlc_ordered_log.specs.Moved.{moved_finding}
use Rattle.hlc_ordered_log.specs.Reordered.{IsRearranged, TellTheSame, moved_position}
use Rattle.hlc_ordered_log.proofs.EventsInOrder.{length-clocks_of, length-skeleton_of}
use Rattle.hlc_ordered_log.proofs.Ordering.{order_len}
use Rattle.hlc_ordered_log.proofs.Rearranged.{event_moved, in_the_order, moved, moved_exists, one_log, reordered, same_size, same_tests, tell_the_same}
use Rattle.hlc_ordered_log.proofs.Found.{one_found}
use Rattle.hlc_ordered_log.proofs.SeenTraces.{findings_agree}
use Rattle.hlc_ordered_log.proofs.ReorderedTraces.{claims_moved, least_moved, logs_are_reordered_traces, moved_there}
use Rattle.hlc_log_text.specs.Labels.{label_at}
use Rattle.hlc_log_text.specs.CauseWord.{cause_text}
use Rattle.hlc_log_text.specs.declared.cause_word.CauseWord.{CauseWord}
use Rattle.hlc_log_text.specs.declared.location.Location.{Location}
use Rattle.hlc_log_text.specs.LogText.{name_of}
use Rattle.hlc_log_text.specs.Question.{Asked, Check, Claimed, Drift as DriftAsked, Event, Explain, First, Influenced, Relation as RelationAsked, Tainted, Why}
use Rattle.hlc_log_audit.specs.Answers.{AnswersAt, AnswersCheck, AnswersFirst, AreRisingLinesOf, IfEvent, IsAnswer, TellsAnswer, TellsEvent, claimed_fields, drift_fields, drift_in, drift_row, event_fields_at, found_in, if_event, label_fields, line_or_none, position_at, position_or_end, reading_field, way_fields}
use Rattle.hlc_log_audit.specs.ClaimedWay.{claimed_way}
use Rattle.hlc_log_audit.specs.Laws.{AnswersAgree}
use Rattle.hlc_log_text.specs.ReadText.{LinesRise}
use Rattle.hlc_log_audit.specs.Lines.{HasNumbers, IsOnLine, position_on}
use Rattle.hlc_log_audit.specs.Moved.{moved_drift}
use Rattle.hlc_log_audit.specs.Words.{found_word, missing_row}
use Rattle.hlc_log_audit.proofs.DriftEvents.{drift_event_exists, drift_origin_exists}
use Rattle.hlc_explain.proofs.Asked.{among_within}
use Rattle.hlc_explain.proofs.Found.{answer_within, chain_within, influenced_within, leads_within, tainted_within}
use Rattle.hlc_log_audit.specs.FirstToBreak.{NamesFirstToBreak}
use Rattle.hlc_log_audit.proofs.FirstToBreak.{first_moved, one_first}
use Rattle.hlc_log_audit.proofs.LineFacts.{on_line, one_on_line, position_of_found, position_of_none}
use Rattle.hlc_log_audit.proofs.ReorderedAnswers.{drifts_agree, ways_agree}
use Rattle.hlc_log_audit.proofs.ReorderedPaths.{reordering_keeps_paths}
use Rattle.hlc_log_audit.proofs.ReorderedTaints.{reordering_keeps_taints}
use Rattle.hlc_log_audit.proofs.Ways.{claimed_way_within}

-- logs with the same events
module _ (log other : LogInOrder) (to back : ℕ → ℕ) (h : IsRearranged log other to back) where
  abbrev to_there : ℕ → ℕ
  to_there = moved log other to back h

  seen : (k : ℕ) → k < length log.events → k < length (skeleton_of log)
  seen k lt = let size = length-skeleton_of log h.ordered in omega arith

  pub line_moved : (k : ℕ) → k < length log.events → line_in other (to_there k) ≡ line_in log k
  line_moved k lt = ap (λ (x : LogEvent). x.line) (event_moved log other to back h k (seen k lt))

  -- nodes
  pub node_moved : (k : ℕ) → k < length (skeleton_of log) → (skeleton_at (skeleton_of other) (to_there k)).node ≡ (skeleton_at (skeleton_of log) k).node
  node_moved k lt =
      let within = in_the_order log other to back h k lt in
      let there = moved_there log other to back (tell_the_same log other to back h) k within in
      ap (λ (x : SkeletonEvent). x.node) (skeleton_in_at other.events other.order h.other_ordered.causal (to_there k) there.0)
      ∙ ap (λ (x : LogEvent). x.node.0) (event_moved log other to back h k lt)
      ∙ sym (ap (λ (x : SkeletonEvent). x.node) (skeleton_in_at log.events log.order h.ordered.causal k within))

  pub same_node : (node : ℕ) → IsSameNode (skeleton_of log) (skeleton_of other) to_there node node
  same_node node k lt = (λ is. node_moved k lt ∙ is, λ is. sym (node_moved k lt) ∙ is)

  drift_fields_moved : (files : List FileMark) (found : Option Drift) → IfSome found (λ drift. drift.event.0 < length log.events)
      → IfSome found (λ drift. drift.origin.0 < length log.events) → drift_fields files other (option_map (moved_drift to_there) found) ≡ drift_fields files log found
  drift_fields_moved files None event origin = refl
  drift_fields_moved files (Some drift) event origin =
      ap (λ (line : ℕ). decimal drift.ahead ∷ line_text files line ∷ told_in files other (to_there drift.origin.0) ∷ []) (line_moved drift.event.0 event)
      ∙ ap (λ (line : ℕ). decimal drift.ahead ∷ told_in files log drift.event.0 ∷ line_text files line ∷ []) (line_moved drift.origin.0 origin)

  pub same_drift : (files : List FileMark) (node : ℕ) → drift_fields files other (drift_in other node) ≡ drift_fields files log (drift_in log node)
  same_drift files node =
      ap (drift_fields files other) (drifts_agree log other to back (tell_the_same log other to back h) node node (same_node node))
      ∙ drift_fields_moved files (drift_in log node) (drift_event_exists log h.ordered node) (drift_origin_exists log h.ordered node)

  -- the lines of events
  pub lines_moved : (events : List ℕ) → All (λ (k : ℕ). k < length (skeleton_of log)) events → map (line_in other) (map to_there events) ≡ map (line_in log) events
  lines_moved [] within = refl
  lines_moved (k ∷ events) within =
      ap (λ (x : LogEvent). x.line ∷ map (line_in other) (map to_there events)) (event_moved log other to back h k (within 0 k (omega arith)))
      ∙ ap (λ (lines : List ℕ). line_in log k ∷ lines) (lines_moved events (λ i d lt. within (suc i) d (omega arith)))

-- a list that is kept by a map
contains_mapped : (f : ℕ → ℕ) (xs : List ℕ) (y : ℕ) → Contains (map f xs) y → (x : ℕ) × Contains xs x × (f x ≡ y)
contains_mapped f xs y (k, lt, is) =
    let size = length-map xs f in
    let within : k < length xs = omega arith in
    (get_or xs k 0, (k, within, get_or_default xs k (get_or xs k 0) 0 within), sym (get_or-map f xs k 0 y within) ∙ is)

mapped_contains : (f : ℕ → ℕ) (xs : List ℕ) (x : ℕ) → Contains xs x → Contains (map f xs) (f x)
mapped_contains f xs x (k, lt, is) =
    let size = length-map xs f in
    (k, omega arith, get_or-map f xs k x (f x) lt ∙ ap f is)

contained_within : (n : ℕ) (xs : List ℕ) (x : ℕ) → All (λ (k : ℕ). k < n) xs → Contains xs x → x < n
contained_within n xs x within (k, lt, is) = subst (λ (y : ℕ). y < n) is (within k x lt)

word_kept : (to : ℕ → ℕ) (found : Option Finding) → found_word (option_map (moved_finding to) found) ≡ found_word found
word_kept to None = refl
word_kept to (Some RolledOver) = refl
word_kept to (Some (Judged verdict.Behind)) = refl
word_kept to (Some (Judged (verdict.NotAbove d))) = refl
word_kept to (Some (Judged (verdict.Low p))) = refl
word_kept to (Some (Judged verdict.Least)) = refl
word_kept to (Some (Judged (verdict.Ahead p))) = refl

chain_exists : (t : ClockEvents) (p : Pair) (f : ℕ) (list : List ℕ) → IsClockChain t p f list → All (λ (k : ℕ). k < length t) list
chain_exists t p f [] h = absurd h
chain_exists t p f (e ∷ rest) h =
    All-cons (λ (k : ℕ). k < length t) e rest h.exists
    (subst (λ (n : ℕ). All (λ (k : ℕ). k < n) rest) (skeleton_size t) (leads_within (clock_skeleton t) e rest f h.linked))

module _ (s t : Skeleton) (to back : ℕ → ℕ) (h : IsReordering s t to back) where
  leads_kept : (e : ℕ) (rest : List ℕ) (f : ℕ) → LeadsTo s e rest f → LeadsTo t (to e) (map to rest) (to f)
  leads_kept e [] f same = ap to same
  leads_kept e (m ∷ rest) f leads = (direct_kept s t to back h e m leads.0, leads_kept m rest f leads.1)

  same_relation : (j k : ℕ) → j < length s → k < length s → relation_of t (to j) (to k) ≡ relation_of s j k
  same_relation j k j_lt k_lt =
      let found = relations_are_found s j k in
      let before = reordering_keeps_happened_before s t to back h j k j_lt k_lt in
      let after = reordering_keeps_happened_before s t to back h k j k_lt j_lt in
      let there : IsRelationOf t (to j) (to k) (relation_of s j k) = record {
        before = (λ is. before.0 (found.before.0 is), λ b. found.before.1 (before.1 b));
        after = (λ is. after.0 (found.after.0 is), λ a. found.after.1 (after.1 a));
        same = (λ is. ap to (found.same.0 is), λ is. found.same.1 (sym (h.back_here j j_lt) ∙ ap back is ∙ h.back_here k k_lt));
      } in
      sym (relation_is t (to j) (to k) (relation_of s j k) there)

module _ (t u : ClockEvents) (to back : ℕ → ℕ) (h : IsClockReordering t u to back) where
  ticks_kept : (rest : List ℕ) → All (λ (k : ℕ). k < length t) rest → ticks_among u (map to rest) ≡ ticks_among t rest
  ticks_kept [] within = refl
  ticks_kept (m ∷ rest) within =
      let more = ticks_kept rest (λ i d lt. within (suc i) d (omega arith)) in
      ticks_among_more u (to m) (map to rest)
      ∙ (λ i. cond {A = ℕ} (h.ticks m (within 0 m (omega arith)) i) 1 0 + more i)
      ∙ sym (ticks_among_more t m rest)

  forced_chain_kept : (p : Pair) (f : ℕ) (list : List ℕ) → IsClockChain t p f list → IsClockChain u p (to f) (map to list)
  forced_chain_kept p f [] chain = absurd chain
  forced_chain_kept p f (e ∷ rest) chain =
      let there = h.links.there.exists e (omega (arith, chain.exists, skeleton_size t)) in
      let floor = h.floor e chain.exists in
      let within : All (λ (k : ℕ). k < length t) rest = λ i d lt. chain_exists t p f (e ∷ rest) chain (suc i) d (omega arith) in
      record {
        exists = omega (arith, there, skeleton_size u);
        floor = ap (λ (q : Pair). q.l) floor ∙ chain.floor;
        counts = (λ i. (floor i).c + ticks_kept rest within i) ∙ chain.counts;
        linked = leads_kept (clock_skeleton t) (clock_skeleton u) to back h.links e rest f chain.linked;
      }

-- whether events at some locations are a chain for the least stamp of one
abbrev explains : List FileMark → LogInOrder → Location → List Location → Bool
explains files log event chain =
    is_clock_explained_by (clocks_of log) log.least (position_or_end files log event) (map (position_or_end files log) chain)

-- one log
module _ (log other : LogInOrder) (ordered : IsInOrder log) (other_ordered : IsInOrder other) (clocks : other.receives ≡ log.receives)
    (same : other.events ≡ log.events) (rise : LinesRise log.events) where
  abbrev itself : ℕ → ℕ
  itself e = e

  abbrev one : IsRearranged log other itself itself
  one = one_log log other clocks ordered other_ordered same

  abbrev there : ℕ → ℕ
  there = moved log other itself itself one

  abbrev s : Skeleton
  s = skeleton_of log

  abbrev t : Skeleton
  t = skeleton_of other

  told : TellTheSame log other itself itself
  told = tell_the_same log other itself itself one

  pub moves : IsReordering s t there (moved_position other log itself)
  moves = reordered log other itself itself one

  clocks_move : IsClockReordering (clocks_of log) (clocks_of other) there (moved_position other log itself)
  clocks_move = (logs_are_reordered_traces log other itself itself told).events

  pub equal_claims : HaveEqualPairs s there (claimed_of log) (claimed_of other)
  equal_claims = claims_moved log other itself itself told

  equal_least : HaveEqualPairs s there log.least other.least
  equal_least = least_moved log other itself itself told

  read_so : (k : ℕ) → k < length s → k < length (clocks_of log)
  read_so k lt = omega (arith, lt, length-clocks_of log)

  other_rise : LinesRise other.events
  other_rise = subst (λ (events : List LogEvent). LinesRise events) (sym same) rise

  event_same : (e : ℕ) → event_at other.events e ≡ event_at log.events e
  event_same e = ap (λ (events : List LogEvent). event_at events e) same

  in_log : (k : ℕ) → k < length log.order → k < length s
  in_log k lt =
      let size = length-skeleton_of log ordered in
      let places = order_len log.events log.order ordered.causal in
      omega arith

  in_order : (k : ℕ) → k < length s → k < length log.order
  in_order k lt = in_the_order log other itself itself one k lt

  there_is : (k : ℕ) → k < length s → place_at other.order (there k) ≡ place_at log.order k
  there_is k lt = (moved_there log other itself itself (tell_the_same log other itself itself one) k (in_order k lt)).1

  -- the position of a line
  on_other : (line e : ℕ) → IsOnLine log.events line e → IsOnLine other.events line e
  on_other line e at = record {
    exists = (let size = ap (λ (events : List LogEvent). length events) same in let exists = at.exists in omega arith);
    on_line = ap (λ (x : LogEvent). x.line) (event_same e) ∙ at.on_line;
  }

  found_there : (line k : ℕ) → position_on log line ≡ Some k → (k < length s) × (position_on other line ≡ Some (there k))
  found_there line k is =
      let found = position-Some (λ (e : ℕ). (event_at log.events e).line == line) log.order k 0 is in
      let k_lt = in_log k found.0 in
      let at = on_line log ordered line k found.0 found.1 in
      let size = same_size log other itself itself one in
      let other_size = length-skeleton_of other other_ordered in
      let lt = moved_exists log other itself itself one k k_lt in
      let numbers : HasNumbers other (place_at log.order k) (there k) = record { exists = omega arith; at_place = there_is k k_lt } in
      (k_lt, position_of_found other other_ordered line (place_at log.order k) (there k) other_rise (on_other line (place_at log.order k) at) numbers)

  none_there : (line : ℕ) → position_on log line ≡ None → position_on other line ≡ None
  none_there line none =
      position_of_none other other_ordered line (λ e at.
      let exists : e < length log.events = (let size = ap (λ (events : List LogEvent). length events) same in let lt = at.exists in omega arith) in
      let here : IsOnLine log.events line e = record { exists = exists; on_line = sym (ap (λ (x : LogEvent). x.line) (event_same e)) ∙ at.on_line } in
      let place = place_in_order log.events log.order e (ordered.causal.all e exists) in
      let places = order_len log.events log.order ordered.causal in
      let numbers : HasNumbers log e place.0 = record { exists = omega (arith, place.1); at_place = place.2 } in
      let found : position_on log line ≡ Some place.0 = position_of_found log ordered line e place.0 rise here numbers in
      let both : None ≡ Some place.0 = sym none ∙ found in
      cc)

  position_moved : (line : ℕ) (o : Option ℕ) → position_on log line ≡ o → position_on other line ≡ option_map there o
  position_moved line None is = none_there line is
  position_moved line (Some k) is = (found_there line k is).1

  -- the position of a location
  at_moved : (files : List FileMark) (location : Location) → position_at files other location ≡ option_map there (position_at files log location)
  at_moved files location = in_line (line_at files location)
    where
      in_line : (o : Option ℕ) → option_and_then (λ line. position_on other line) o ≡ option_map there (option_and_then (λ line. position_on log line) o)
      in_line None = refl
      in_line (Some line) = position_moved line (position_on log line) refl

  at_exists : (files : List FileMark) (location : Location) (k : ℕ) → position_at files log location ≡ Some k → k < length s
  at_exists files location k is = in_line (line_at files location) is
    where
      in_line : (o : Option ℕ) → option_and_then (λ line. position_on log line) o ≡ Some k → k < length s
      in_line None is = let both : None ≡ Some k = is in absurd cc
      in_line (Some line) is = (found_there line k is).0

  row_by : (line : ℕ) (row other_row : ℕ → Fields) → ((k : ℕ) → k < length s → other_row (there k) ≡ row k)
      → if_event (position_on other line) other_row ≡ if_event (position_on log line) row
  row_by line row other_row each = by_position (position_on log line) refl
    where
      by_position : (o : Option ℕ) → position_on log line ≡ o → if_event (position_on other line) other_row ≡ if_event (position_on log line) row
      by_position None is =
          ap (λ (o : Option ℕ). if_event o other_row) (none_there line is) ∙ sym (ap (λ (o : Option ℕ). if_event o row) is)
      by_position (Some k) is =
          let found = found_there line k is in
          ap (λ (o : Option ℕ). if_event o other_row) found.1 ∙ each k found.0 ∙ sym (ap (λ (o : Option ℕ). if_event o row) is)

  -- chains and ways
  way_moved : (files : List FileMark) (word : List ℕ) (line : ℕ) (p q : Pair) (events others : List ℕ) → q ≡ p → others ≡ map there events
      → All (λ (k : ℕ). k < length s) events → way_fields files word other line q others ≡ way_fields files word log line p events
  way_moved files word line p q events others pairs moves within =
      ap (λ (r : Pair). word ∷ line_text files line ∷ decimal r.l ∷ decimal r.c ∷ map (line_text files) (map (line_in other) others)) pairs
      ∙ ap (λ (lines : List ℕ). word ∷ line_text files line ∷ decimal p.l ∷ decimal p.c ∷ map (line_text files) lines)
      (ap (map (line_in other)) moves ∙ lines_moved log other itself itself one events within)

  -- answers whose events are in order
  told_alike : (files : List FileMark) (word : List ℕ) (asked : Fields) (numbers events : List ℕ) (last : Option (List ℕ)) (row other_row : Fields)
      → All (λ (k : ℕ). k < length s) events
      → TellsAnswer files log word asked (record { numbers = numbers; events = events; is_set = false; word = last }) row
      → TellsAnswer files other word asked (record { numbers = numbers; events = map there events; is_set = false; word = last }) other_row
      → other_row ≡ row
  told_alike files word asked numbers events last row other_row within (lines, are, is) (others, others_are, others_is) =
      others_is ∙ ap (λ (ls : List ℕ). word ∷ (asked ++ map decimal numbers ++ map (line_text files) ls ++ last_field last))
      (others_are ∙ lines_moved log other itself itself one events within ∙ sym are) ∙ sym is

  asked_moved : (files : List FileMark) (events : List ℕ) → All (λ (k : ℕ). k < length s) events
      → map (line_text files) (map (line_in other) (map there events)) ≡ map (line_text files) (map (line_in log) events)
  asked_moved files events within = ap (map (line_text files)) (lines_moved log other itself itself one events within)

  only : (k : ℕ) → k < length s → All (λ (e : ℕ). e < length s) (k ∷ [])
  only k lt = All-cons (λ (e : ℕ). e < length s) k [] lt (All-nil (λ (e : ℕ). e < length s))

  chain_alike : (files : List FileMark) (row other_row : Fields) (k : ℕ) → k < length s → AnswersAt files log (Some (about.Explain k)) row
      → AnswersAt files other (Some (about.Explain (there k))) other_row → other_row ≡ row
  chain_alike files row other_row k lt tells other_tells =
      let chain = clock_chain_of (clocks_of log) log.least k in
      let p = pair_at log.least k in
      let pairs : pair_at other.least (there k) ≡ p = sym (equal_least k lt) in
      let chains : clock_chain_of (clocks_of other) other.least (there k) ≡ map there chain =
      clock_reordering_keeps_chains (clocks_of log) (clocks_of other) there (moved_position other log itself) clocks_move log.least other.least
      (λ e shown. equal_least e (omega (arith, shown, skeleton_size (clocks_of log), length-clocks_of log))) k (read_so k lt) in
      let found : found_in other (about.Explain (there k)) ≡ way_answer p (map there chain) = λ i. way_answer (pairs i) (chains i) in
      let asked = map (line_text files) (map (line_in log) (k ∷ [])) in
      let within =
      subst (λ (n : ℕ). All (λ (e : ℕ). e < n) chain) (length-clocks_of log) (chain_within (clocks_of log) log.least k (read_so k lt)) in
      told_alike files (codes "chain") asked (p.l ∷ p.c ∷ []) chain None row other_row within tells
      (subst (λ (a : Answer). TellsAnswer files other (codes "chain") asked a other_row) found
      (subst (λ (q : Fields). TellsAnswer files other (codes "chain") q (found_in other (about.Explain (there k))) other_row)
      (asked_moved files (k ∷ []) (only k lt)) other_tells))

  relation_alike : (files : List FileMark) (row other_row : Fields) (j k : ℕ) → j < length s → k < length s
      → AnswersAt files log (Some (about.Relation j k)) row → AnswersAt files other (Some (about.Relation (there j) (there k))) other_row
      → other_row ≡ row
  relation_alike files row other_row j k j_lt k_lt tells other_tells =
      let word = relation_word (relation_of s j k) in
      let found : found_in other (about.Relation (there j) (there k)) ≡ word_answer word =
      ap (λ (r : Relation). word_answer (relation_word r)) (same_relation s t there (moved_position other log itself) moves j k j_lt k_lt) in
      let asked = map (line_text files) (map (line_in log) (j ∷ k ∷ [])) in
      let within = All-cons (λ (e : ℕ). e < length s) j (k ∷ []) j_lt (only k k_lt) in
      told_alike files (codes "relation") asked [] [] (Some word) row other_row (All-nil (λ (e : ℕ). e < length s)) tells
      (subst (λ (a : Answer). TellsAnswer files other (codes "relation") asked a other_row) found
      (subst (λ (q : Fields). TellsAnswer files other (codes "relation") q (found_in other (about.Relation (there j) (there k))) other_row)
      (asked_moved files (j ∷ k ∷ []) within) other_tells))

  path_told : (files : List FileMark) (asked : Fields) (found : Option (List ℕ)) (row other_row : Fields)
      → All (λ (k : ℕ). k < length s) ((path_answer found).events) → TellsAnswer files log (codes "path") asked (path_answer found) row
      → TellsAnswer files other (codes "path") asked (path_answer (option_map (map there) found)) other_row → other_row ≡ row
  path_told files asked None row other_row within tells other_tells =
      told_alike files (codes "path") asked [] [] (Some (codes "none")) row other_row (All-nil (λ (e : ℕ). e < length s)) tells other_tells
  path_told files asked (Some path) row other_row within tells other_tells =
      told_alike files (codes "path") asked [] path None row other_row within tells other_tells

  path_alike : (files : List FileMark) (row other_row : Fields) (j k : ℕ) → j < length s → k < length s
      → AnswersAt files log (Some (about.Why j k)) row → AnswersAt files other (Some (about.Why (there j) (there k))) other_row → other_row ≡ row
  path_alike files row other_row j k j_lt k_lt tells other_tells =
      let path = path_of s j k in
      let found : found_in other (about.Why (there j) (there k)) ≡ path_answer (option_map (map there) path) =
      ap (λ (o : Option (List ℕ)). path_answer o) (reordering_keeps_paths s t there (moved_position other log itself) moves j k j_lt k_lt) in
      let asked = map (line_text files) (map (line_in log) (j ∷ k ∷ [])) in
      let both = All-cons (λ (e : ℕ). e < length s) j (k ∷ []) j_lt (only k k_lt) in
      let within = answer_within s (clocks_of log) log.least (about.Why j k) (length-clocks_of log) (among_within (length s) (j ∷ k ∷ []) both) in
      path_told files asked path row other_row within tells
      (subst (λ (a : Answer). TellsAnswer files other (codes "path") asked a other_row) found
      (subst (λ (q : Fields). TellsAnswer files other (codes "path") q (found_in other (about.Why (there j) (there k))) other_row)
      (asked_moved files (j ∷ k ∷ []) both) other_tells))

  -- answers by a position, and by two
  by_one : (files : List FileMark) (ask other_ask : ℕ → EventQuestion) (location : Location) (row other_row : Fields)
      → ((k : ℕ) → k < length s → AnswersAt files log (Some (ask k)) row → AnswersAt files other (Some (other_ask (there k))) other_row → other_row ≡ row)
      → (o : Option ℕ) → position_at files log location ≡ o → AnswersAt files log (option_map ask (position_at files log location)) row
      → AnswersAt files other (option_map other_ask (position_at files other location)) other_row → other_row ≡ row
  by_one files ask other_ask location row other_row each None is tells other_tells =
      let none : position_at files other location ≡ None = at_moved files location ∙ ap (option_map there) is in
      let here : row ≡ missing_row missing.Event = subst (λ (o : Option ℕ). AnswersAt files log (option_map ask o) row) is tells in
      subst (λ (o : Option ℕ). AnswersAt files other (option_map other_ask o) other_row) none other_tells ∙ sym here
  by_one files ask other_ask location row other_row each (Some k) is tells other_tells =
      let found : position_at files other location ≡ Some (there k) = at_moved files location ∙ ap (option_map there) is in
      each k (at_exists files location k is) (subst (λ (o : Option ℕ). AnswersAt files log (option_map ask o) row) is tells)
      (subst (λ (o : Option ℕ). AnswersAt files other (option_map other_ask o) other_row) found other_tells)

  by_two : (files : List FileMark) (ask : ℕ → ℕ → EventQuestion) (first second : Location) (row other_row : Fields)
      → ((j k : ℕ) → j < length s → k < length s → AnswersAt files log (Some (ask j k)) row → AnswersAt files other (Some (ask (there j) (there k))) other_row
      → other_row ≡ row)
      → (o : Option ℕ) → position_at files log first ≡ o
      → AnswersAt files log (option_and_then (λ j. option_map (ask j) (position_at files log second)) (position_at files log first)) row
      → AnswersAt files other (option_and_then (λ j. option_map (ask j) (position_at files other second)) (position_at files other first)) other_row
      → other_row ≡ row
  by_two files ask first second row other_row each None is tells other_tells =
      let none : position_at files other first ≡ None = at_moved files first ∙ ap (option_map there) is in
      let here : row ≡ missing_row missing.Event =
      subst (λ (o : Option ℕ). AnswersAt files log (option_and_then (λ j. option_map (ask j) (position_at files log second)) o) row) is tells in
      subst (λ (o : Option ℕ). AnswersAt files other (option_and_then (λ j. option_map (ask j) (position_at files other second)) o) other_row)
      none other_tells ∙ sym here
  by_two files ask first second row other_row each (Some j) is tells other_tells =
      let found : position_at files other first ≡ Some (there j) = at_moved files first ∙ ap (option_map there) is in
      by_one files (ask j) (ask (there j)) second row other_row
      (λ k k_lt. each j k (at_exists files first j is) k_lt) (position_at files log second) refl
      (subst (λ (o : Option ℕ). AnswersAt files log (option_and_then (λ j. option_map (ask j) (position_at files log second)) o) row) is tells)
      (subst (λ (o : Option ℕ). AnswersAt files other (option_and_then (λ j. option_map (ask j) (position_at files other second)) o) other_row)
      found other_tells)

  claimed_row : (files : List FileMark) (line k : ℕ) → k < length s → claimed_fields files other line (there k) ≡ claimed_fields files log line k
  claimed_row files line k lt =
      way_moved files (codes "claimed") line (pair_at (claimed_of log) k) (pair_at (claimed_of other) (there k)) (claimed_way s (claimed_of log) k)
      (claimed_way t (claimed_of other) (there k)) (sym (equal_claims k lt))
      (ways_agree log other itself itself (tell_the_same log other itself itself one) k (in_order k lt))
      (claimed_way_within s (claimed_of log) k lt)

  pub claimed_alike : (files : List FileMark) (line : ℕ)
      → if_event (position_on other line) (claimed_fields files other line) ≡ if_event (position_on log line) (claimed_fields files log line)
  claimed_alike files line = row_by line (claimed_fields files log line) (claimed_fields files other line) (claimed_row files line)

  drift_row_same : (files : List FileMark) (name : List ℕ) (o : Option ℕ) → drift_row files other name o ≡ drift_row files log name o
  drift_row_same files name None = refl
  drift_row_same files name (Some node) = ap (λ (fields : Fields). codes "drift" ∷ name ∷ fields) (same_drift log other itself itself one files node)

  -- what is known of an event
  module _ (files : List FileMark) (nodes : List (List ℕ)) (labels : List (ℕ × List ℕ)) (full line k : ℕ) (lt : k < length s) where
    event_row : (found other_found : Option Finding) → FindsAt log full k found → FindsAt other full (there k) other_found
        → event_fields_at files nodes labels other line (there k) other_found ≡ event_fields_at files nodes labels log line k found
    event_row found other_found names other_names =
        let row : LogEvent → Pair → List ℕ → ℕ → Fields = λ event least word place.
        codes "event" ∷ line_text files line ∷ name_of nodes event.node.0 ∷ reading_field event ∷ decimal event.stamp.l ∷ decimal event.stamp.c
        ∷ decimal least.l ∷ decimal least.c ∷ word ∷ label_fields (label_at labels place) in
        let event = event_in_order log.events log.order k in
        let other_event = event_in_order other.events other.order (there k) in
        let least = pair_at log.least k in
        let moves : other_found ≡ option_map (moved_finding there) found =
        one_found other full (there k) other_found (option_map (moved_finding there) found) other_names
        (findings_agree log other itself itself (tell_the_same log other itself itself one) full k found (in_order k lt) names) in
        ap (λ (x : LogEvent). row x (pair_at other.least (there k)) (found_word other_found) (place_at other.order (there k)))
        (event_moved log other itself itself one k lt)
        ∙ ap (λ (p : Pair). row event p (found_word other_found) (place_at other.order (there k))) (sym (equal_least k lt))
        ∙ ap (λ (w : List ℕ). row event least w (place_at other.order (there k))) (ap found_word moves ∙ word_kept there found)
        ∙ ap (λ (e : ℕ). row event least (found_word found) e) (there_is k lt)

  -- lines that rise
  one_line : (j k : ℕ) → j < length s → k < length s → line_in log j ≡ line_in log k → j ≡ k
  one_line j k j_lt k_lt lines =
      let place = place_at log.order in
      let j_in = in_order j j_lt in
      let k_in = in_order k k_lt in
      let at : IsOnLine log.events (line_in log k) (place j) = record { exists = place_exists log.events log.order ordered.causal j j_in; on_line = lines } in
      let at' : IsOnLine log.events (line_in log k) (place k) = record { exists = place_exists log.events log.order ordered.causal k k_in; on_line = refl } in
      same_position log.events log.order ordered.causal j k j_in k_in (one_on_line log.events rise (line_in log k) (place j) (place k) at at')

  rising : (events lines : List ℕ) → All (λ (k : ℕ). k < length s) events → IsStrictlyIncreasing events → AreRisingLinesOf log events lines
      → IsStrictlyIncreasing lines
  rising events lines within increase are =
      let size = length-map events (line_in log) in
      let distinct : IsDistinct eqb (map (line_in log) events) =
      IsDistinct-from_apart eqb (map (line_in log) events) (λ i j d lt exists.
      ne_eqb (get_or (map (line_in log) events) i d) (get_or (map (line_in log) events) j d) (λ lines_same.
      let j_lt : j < length events = omega arith in
      let i_lt : i < length events = omega arith in
      let lower : get_or events i 0 < get_or events j 0 = AllPairs-from_increasing events increase i j 0 lt j_lt in
      let both : get_or events i 0 ≡ get_or events j 0 =
      one_line (get_or events i 0) (get_or events j 0) (within i 0 i_lt) (within j 0 j_lt)
      (sym (get_or-map (line_in log) events i 0 d i_lt) ∙ lines_same ∙ get_or-map (line_in log) events j 0 d j_lt) in
      omega arith)) in
      IsStrictlyIncreasing-from_distinct lines (IsNonDecreasingBy-from_sort (λ (x : ℕ). x) lines are.rising)
      (IsDistinct-IsPermutation eqb flipped (map (line_in log) events) lines are.of_events distinct)
    where
      flipped : (x y : ℕ) → eqb x y ≡ eqb y x
      flipped x y = same_tests (eqb y x) (eqb x y) (λ is. eq-eqb x y (sym (eqb-true y x is))) (λ is. eq-eqb y x (sym (eqb-true x y is)))

  lines_there : (events others lines other_lines : List ℕ) → All (λ (k : ℕ). k < length s) events
      → ((e : ℕ) → Contains events e → Contains others (there e)) → AreRisingLinesOf log events lines → AreRisingLinesOf other others other_lines
      → (f : ℕ) → Contains lines f → Contains other_lines f
  lines_there events others lines other_lines within kept are others_are f has =
      let from = contains_mapped (line_in log) events f
      (Contains-permutation lines (map (line_in log) events) f (IsPermutation-sym (map (line_in log) events) lines are.of_events) has) in
      let e = from.0 in
      let e_lt : e < length s = contained_within (length s) events e within from.1 in
      let among = mapped_contains (line_in other) others (there e) (kept e from.1) in
      let size = length-skeleton_of log ordered in
      let is : line_in other (there e) ≡ f = line_moved log other itself itself one e (omega arith) ∙ from.2 in
      subst (Contains other_lines) is
      (Contains-permutation (map (line_in other) others) other_lines (line_in other (there e)) others_are.of_events among)

  -- chains that are checked
  or_end_moved : (files : List FileMark) (location : Location) → position_or_end files log location < length s
      → position_or_end files other location ≡ there (position_or_end files log location)
  or_end_moved files location lt = by_position (position_at files log location) refl lt
    where
      by_position : (o : Option ℕ) → position_at files log location ≡ o → unwrap_or (position_at files log location) (length log.events) < length s
          → unwrap_or (position_at files other location) (length other.events) ≡ there (unwrap_or (position_at files log location) (length log.events))
      by_position None is lt =
          let size = length-skeleton_of log ordered in
          let end : unwrap_or (position_at files log location) (length log.events) ≡ length log.events =
          ap (λ (o : Option ℕ). unwrap_or o (length log.events)) is in
          absurd (omega arith)
      by_position (Some k) is lt =
          ap (λ (o : Option ℕ). unwrap_or o (length other.events)) (at_moved files location ∙ ap (option_map there) is)
          ∙ ap there (sym (ap (λ (o : Option ℕ). unwrap_or o (length log.events)) is))

  all_moved : (files : List FileMark) (locations : List Location) → All (λ (k : ℕ). k < length s) (map (position_or_end files log) locations)
      → map (position_or_end files other) locations ≡ map there (map (position_or_end files log) locations)
  all_moved files [] within = refl
  all_moved files (location ∷ locations) within =
      ap (λ (k : ℕ). k ∷ map (position_or_end files other) locations) (or_end_moved files location (within 0 0 (omega arith)))
      ∙ ap (λ (ks : List ℕ). there (position_or_end files log location) ∷ ks) (all_moved files locations (λ i d lt. within (suc i) d (omega arith)))

  explained_there : (files : List FileMark) (event : Location) (chain : List Location) → explains files log event chain ≡ true
      → explains files other event chain ≡ true
  explained_there files event chain test =
      let e = position_or_end files log event in
      let list = map (position_or_end files log) chain in
      let is = (clock_explained_is_tested (clocks_of log) log.least e list).0 test in
      let exists : e < length s = omega (arith, is.exists, length-clocks_of log) in
      let within =
      subst (λ (n : ℕ). All (λ (k : ℕ). k < n) list) (length-clocks_of log) (chain_exists (clocks_of log) (pair_at log.least e) e list is.chain) in
      let kept = forced_chain_kept (clocks_of log) (clocks_of other) there (moved_position other log itself) clocks_move (pair_at log.least e) e list is.chain in
      let chain_there : IsClockChain (clocks_of other) (pair_at other.least (there e)) (there e) (map there list) =
      subst (λ (p : Pair). IsClockChain (clocks_of other) p (there e) (map there list)) (equal_least e exists) kept in
      let tested = (clock_explained_is_tested (clocks_of other) other.least (there e) (map there list)).1
      (record { exists = omega (arith, moves.there.exists e exists, length-clocks_of other); chain = chain_there }) in
      ap (λ (x : ℕ). is_clock_explained_by (clocks_of other) other.least x (map (position_or_end files other) chain)) (or_end_moved files event exists)
      ∙ ap (λ (xs : List ℕ). is_clock_explained_by (clocks_of other) other.least (there e) xs) (all_moved files chain within) ∙ tested

-- answers by a line
by_line : (o : Option ℕ) (row other_row : ℕ → Fields) → ((line : ℕ) → other_row line ≡ row line) → if_event o other_row ≡ if_event o row
by_line None row other_row each = refl
by_line (Some line) row other_row each = each line

told_by_line : (o : Option ℕ) (Tells OtherTells : ℕ → Fields → Type 0) (row other_row : Fields)
    → ((line : ℕ) → Tells line row → OtherTells line other_row → other_row ≡ row) → IfEvent o Tells row → IfEvent o OtherTells other_row → other_row ≡ row
told_by_line None Tells OtherTells row other_row each tells other_tells = other_tells ∙ sym tells
told_by_line (Some line) Tells OtherTells row other_row each tells other_tells = each line tells other_tells

-- each kind of answer
module _ (files : List FileMark) (nodes : List (List ℕ)) (labels : List (ℕ × List ℕ)) (log other : LogInOrder) (full : ℕ) (ordered : IsInOrder log) (other_ordered : IsInOrder other)
    (clocks : other.receives ≡ log.receives) (same : other.events ≡ log.events) (rise : LinesRise log.events) where
  abbrev to_other : ℕ → ℕ
  to_other = there log other ordered other_ordered clocks same rise

  -- answers by a position
  by_event : (line : ℕ) (Tells OtherTells : ℕ → Fields → Type 0) (row other_row : Fields)
      → ((k : ℕ) → k < length (skeleton_of log) → Tells k row → OtherTells (to_other k) other_row → other_row ≡ row)
      → (o : Option ℕ) → position_on log line ≡ o → IfEvent (position_on log line) Tells row → IfEvent (position_on other line) OtherTells other_row
      → other_row ≡ row
  by_event line Tells OtherTells row other_row each None is tells other_tells =
      let none = none_there log other ordered other_ordered clocks same rise line is in
      let here = subst (λ (o : Option ℕ). IfEvent o Tells row) is tells in
      let there_none = subst (λ (o : Option ℕ). IfEvent o OtherTells other_row) none other_tells in
      there_none ∙ sym here
  by_event line Tells OtherTells row other_row each (Some k) is tells other_tells =
      let found = found_there log other ordered other_ordered clocks same rise line k is in
      each k found.0 (subst (λ (o : Option ℕ). IfEvent o Tells row) is tells)
      (subst (λ (o : Option ℕ). IfEvent o OtherTells other_row) found.1 other_tells)

  -- answers whose events are a set
  module _ (word : List ℕ) (k : ℕ) (lt : k < length (skeleton_of log)) (events others : List ℕ) (within : All (λ (e : ℕ). e < length (skeleton_of log)) events)
      (other_within : All (λ (e : ℕ). e < length (skeleton_of other)) others) (rise_here : IsStrictlyIncreasing events) (rise_there : IsStrictlyIncreasing others)
      (kept : (e : ℕ) → Contains events e → Contains others (to_other e))
      (returned : (e : ℕ) → Contains others e → Contains events (moved_position other log (λ d. d) e)) where
    set_alike : (row other_row : Fields) → TellsAnswer files log word (map (line_text files) (map (line_in log) (k ∷ []))) (set_answer events) row
        → TellsAnswer files other word (map (line_text files) (map (line_in other) (to_other k ∷ []))) (set_answer others) other_row → other_row ≡ row
    set_alike row other_row (lines, are, is) (other_lines, others_are, others_is) =
        let back_rise : LinesRise other.events = other_rise log other ordered other_ordered clocks same rise in
        let equal : other_lines ≡ lines =
        rising_is_unique other_lines lines
        (rising other log other_ordered ordered (sym clocks) (sym same) back_rise others other_lines other_within rise_there others_are)
        (rising log other ordered other_ordered clocks same rise events lines within rise_here are)
        (λ f. (
          lines_there other log other_ordered ordered (sym clocks) (sym same) back_rise others events other_lines lines other_within returned others_are are f,
          lines_there log other ordered other_ordered clocks same rise events others lines other_lines within kept are others_are f,
        )) in
        let asked = asked_moved log other ordered other_ordered clocks same rise files (k ∷ []) (only log other ordered other_ordered clocks same rise k lt) in
        others_is ∙ (λ i. answer_row word (asked i) (map (line_text files) (equal i)) (set_answer [])) ∙ sym is

  influenced_alike : (row other_row : Fields) (k : ℕ) → k < length (skeleton_of log) → AnswersAt files log (Some (about.Influenced k)) row
      → AnswersAt files other (Some (about.Influenced (to_other k))) other_row → other_row ≡ row
  influenced_alike row other_row k lt tells other_tells =
      let s = skeleton_of log in
      let t = skeleton_of other in
      let back = moved_position other log (λ d. d) in
      let moved_so = moves log other ordered other_ordered clocks same rise in
      let far = moved_so.there.exists k lt in
      set_alike (codes "influenced") k lt (influenced_by s k) (influenced_by t (to_other k)) (influenced_within s k) (influenced_within t (to_other k))
      (influenced_are_found s k).1 (influenced_are_found t (to_other k)).1
      (λ e has.
      let e_lt : e < length s = contained_within (length s) (influenced_by s k) e (influenced_within s k) has in
      ((influenced_are_found t (to_other k)).0 (to_other e)).1
      ((reordering_keeps_happened_before s t to_other back moved_so k e lt e_lt).0 (((influenced_are_found s k).0 e).0 has)))
      (λ e has.
      let e_lt : e < length t = contained_within (length t) (influenced_by t (to_other k)) e (influenced_within t (to_other k)) has in
      let before : HappenedBefore t (to_other k) e = ((influenced_are_found t (to_other k)).0 e).0 has in
      ((influenced_are_found s k).0 (back e)).1
      (subst (λ (x : ℕ). HappenedBefore s x (back e)) (moved_so.back_here k lt)
      ((reordering_keeps_happened_before t s back to_other (turned s t to_other back moved_so) (to_other k) e far e_lt).0 before)))
      row other_row tells other_tells

  tainted_alike : (row other_row : Fields) (k : ℕ) → k < length (skeleton_of log) → AnswersAt files log (Some (about.Tainted k)) row
      → AnswersAt files other (Some (about.Tainted (to_other k))) other_row → other_row ≡ row
  tainted_alike row other_row k lt tells other_tells =
      let clocks_here = clocks_of log in
      let clocks_there = clocks_of other in
      let back = moved_position other log (λ d. d) in
      let moved_so = clocks_move log other ordered other_ordered clocks same rise in
      let size = length-clocks_of log in
      let other_size = length-clocks_of other in
      let links = moves log other ordered other_ordered clocks same rise in
      let raised = is_raised clocks_here log.least k in
      let raised_there = is_raised clocks_there other.least (to_other k) in
      let alike : (e : ℕ) → e < length clocks_here → raised_there (to_other e) ≡ raised e = λ e e_lt.
      reordering_keeps_taints clocks_here clocks_there log.least other.least to_other back moved_so
      (λ d shown. equal_least log other ordered other_ordered clocks same rise d (omega (arith, shown, skeleton_size clocks_here, size))) k e
      (omega (arith, lt, size)) e_lt in
      set_alike (codes "tainted") k lt (tainted_by clocks_here log.least k) (tainted_by clocks_there other.least (to_other k))
      (subst (λ (n : ℕ). All (λ (e : ℕ). e < n) (tainted_by clocks_here log.least k)) size (tainted_within clocks_here log.least k))
      (subst (λ (n : ℕ). All (λ (e : ℕ). e < n) (tainted_by clocks_there other.least (to_other k))) other_size (tainted_within clocks_there other.least (to_other k)))
      (passing_places_rise raised (length clocks_here)) (passing_places_rise raised_there (length clocks_there))
      (λ e has.
      let passes = passing_from_contains raised (length clocks_here) e has in
      let far = links.there.exists e (omega (arith, passes.0, size)) in
      contains_passing raised_there (length clocks_there) (to_other e) (omega (arith, far, other_size)) (alike e passes.0 ∙ passes.1))
      (λ e has.
      let passes = passing_from_contains raised_there (length clocks_there) e has in
      let shown : e < length (skeleton_of other) = omega (arith, passes.0, other_size) in
      let near = links.here.exists e shown in
      let near_clock : back e < length clocks_here = omega (arith, near, size) in
      contains_passing raised (length clocks_here) (back e) near_clock
      (sym (alike (back e) near_clock) ∙ ap raised_there (links.back_there e shown) ∙ passes.1))
      row other_row tells other_tells

  -- the first event of a node that breaks a rule
  first_alike : (name : List ℕ) (rule : CauseWord) (node : Option ℕ) (row other_row : Fields) → AnswersFirst files log full name rule node row
      → AnswersFirst files other full name rule node other_row → other_row ≡ row
  first_alike name rule None row other_row is other_is = other_is ∙ sym is
  first_alike name rule (Some node) row other_row (found, names, is) (other_found, other_names, other_is) =
      let told_so = told log other ordered other_ordered clocks same rise in
      let same_so = same_node log other (λ e. e) (λ e. e) (one_log log other clocks ordered other_ordered same) node in
      let kept = first_moved log other (λ e. e) (λ e. e) told_so full rule node node same_so found names in
      let moves_so : other_found ≡ option_map to_other found = one_first other full rule node other_found (option_map to_other found) other_names kept in
      other_is
      ∙ ap (λ (o : Option ℕ). codes "first" ∷ name ∷ cause_text rule ∷ line_or_none files other o ∷ []) moves_so
      ∙ ap (λ (line : List ℕ). codes "first" ∷ name ∷ cause_text rule ∷ line ∷ []) (line_kept found names) ∙ sym is
    where
      line_kept : (found : Option ℕ) → NamesFirstToBreak log full rule node found → line_or_none files other (option_map to_other found) ≡ line_or_none files log found
      line_kept None none = refl
      line_kept (Some k) names =
          let size = length-skeleton_of log ordered in
          ap (line_text files) (line_moved log other (λ e. e) (λ e. e) (one_log log other clocks ordered other_ordered same) k (omega (arith, names.event.exists, size)))

  known_row : (line k : ℕ) (row other_row : Fields) → k < length (skeleton_of log) → TellsEvent files nodes labels log full line k row
      → TellsEvent files nodes labels other full line (to_other k) other_row → other_row ≡ row
  known_row line k row other_row lt (found, names, is) (other_found, other_names, other_is) =
      other_is ∙ event_row log other ordered other_ordered clocks same rise files nodes labels full line k lt found other_found names other_names ∙ sym is

  same_check : (event : Location) (chain : List Location) → explains files other event chain ≡ explains files log event chain
  same_check event chain =
      same_tests (explains files log event chain) (explains files other event chain)
      (explained_there log other ordered other_ordered clocks same rise files event chain)
      (explained_there other log other_ordered ordered (sym clocks) (sym same) (other_rise log other ordered other_ordered clocks same rise) files event chain)

  check_alike : (event : Location) (chain : List Location) (row other_row : Fields) → AnswersCheck files log event chain row
      → AnswersCheck files other event chain other_row → other_row ≡ row
  check_alike event chain row other_row tells other_tells =
      let word = yes_or_no (explains files log event chain) in
      let asked = location_text event ∷ [] in
      told_alike log other ordered other_ordered clocks same rise files (codes "check") asked [] [] (Some word) row other_row
      (All-nil (λ (e : ℕ). e < length (skeleton_of log))) tells
      (subst (λ (b : Bool). TellsAnswer files other (codes "check") asked (word_answer (yes_or_no b)) other_row) (same_check event chain) other_tells)

  pub one_answer : (question : Asked) (row other_row : Fields) → IsAnswer files nodes labels log full question row
      → IsAnswer files nodes labels other full question other_row → other_row ≡ row
  one_answer (Explain event) row other_row is other_is =
      by_one log other ordered other_ordered clocks same rise files (λ k. about.Explain k) (λ k. about.Explain k) event row other_row
      (chain_alike log other ordered other_ordered clocks same rise files row other_row) (position_at files log event) refl is other_is
  one_answer (Check event chain) row other_row is other_is = check_alike event chain row other_row is other_is
  one_answer (RelationAsked first second) row other_row is other_is =
      by_two log other ordered other_ordered clocks same rise files (λ j k. about.Relation j k) first second row other_row
      (relation_alike log other ordered other_ordered clocks same rise files row other_row) (position_at files log first) refl is other_is
  one_answer (Influenced event) row other_row is other_is =
      by_one log other ordered other_ordered clocks same rise files (λ k. about.Influenced k) (λ k. about.Influenced k) event row other_row
      (influenced_alike row other_row) (position_at files log event) refl is other_is
  one_answer (DriftAsked name) row other_row is other_is =
      other_is ∙ drift_row_same log other ordered other_ordered clocks same rise files name (position (bytes_eq name) nodes) ∙ sym is
  one_answer (Claimed event) row other_row is other_is =
      other_is ∙ by_line (line_at files event) (λ line. if_event (position_on log line) (claimed_fields files log line))
      (λ line. if_event (position_on other line) (claimed_fields files other line))
      (λ line. claimed_alike log other ordered other_ordered clocks same rise files line) ∙ sym is
  one_answer (Event event) row other_row is other_is =
      told_by_line (line_at files event) (λ line. IfEvent (position_on log line) (TellsEvent files nodes labels log full line))
      (λ line. IfEvent (position_on other line) (TellsEvent files nodes labels other full line)) row other_row
      (λ line here there. by_event line (TellsEvent files nodes labels log full line) (TellsEvent files nodes labels other full line) row other_row
      (λ k lt tells other_tells. known_row line k row other_row lt tells other_tells) (position_on log line) refl here there) is other_is
  one_answer (Why first second) row other_row is other_is =
      by_two log other ordered other_ordered clocks same rise files (λ j k. about.Why j k) first second row other_row
      (path_alike log other ordered other_ordered clocks same rise files row other_row) (position_at files log first) refl is other_is
  one_answer (Tainted event) row other_row is other_is =
      by_one log other ordered other_ordered clocks same rise files (λ k. about.Tainted k) (λ k. about.Tainted k) event row other_row
      (tainted_alike row other_row) (position_at files log event) refl is other_is
  one_answer (First name rule) row other_row is other_is =
      first_alike name rule (position (bytes_eq name) nodes) row other_row is other_is

pub answers_agree : AnswersAgree
answers_agree files nodes labels log other full question row other_row ordered other_ordered clocks same rise is other_is =
    one_answer files nodes labels log other full ordered other_ordered clocks same rise question row other_row is other_is
