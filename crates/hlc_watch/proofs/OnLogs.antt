-- Causes are local: the three records of an event tell what it breaks, in whatever causal order of the log.
use Rattle.std.proofs.Common.{◌≡◌, ◌≢◌, ◌∙◌, ℕ, zero, suc, ◌<◌, Bool, true, false, List, length, Option, Some, None, arith, inl, inr, refl, sym, ap, subst}
use Rattle.std.specs.Prelude.{if◌then◌else◌, ◌==◌, is_some, option_and_then, option_map, slice_set}
use Rattle.std.proofs.lemmas.Bool.{cases_Bool, cases_order, eq-eqb, eqb-true, ne_eqb}
use Rattle.std.proofs.lemmas.List.{get_or-map, get_or-set_other, get_or-set_same, length-map}
use Rattle.hlc_stamp.specs.declared.id.EventId.{EventId}
use Rattle.hlc_stamp.specs.Order.{Pair, zero_pair}
use Rattle.hlc_causality.specs.declared.event_rule.EventRule.{EventRule}
use Rattle.hlc_causality.specs.declared.receives.Receives.{Receives}
use Rattle.hlc_causality.specs.Assignment.{pair_at}
use Rattle.hlc_causality.specs.Causality.{IsEarlierAtNode, IsPrevious, IsSendOf, Skeleton, SkeletonEvent, skeleton_at}
use Rattle.hlc_causality.specs.ClockEvents.{ClockEvent, ClockEvents, clock_event_at, clock_skeleton}
use Rattle.hlc_causality.specs.Predecessors.{previous_of, send_of}
use Rattle.hlc_causality.specs.ReceiveEvents.{ClockRules, event_by}
use Rattle.hlc_causality.proofs.Predecessors.{previous_or_first, send_is_unique}
use Rattle.hlc_causality.proofs.PredecessorsFound.{Finds, previous_found, send_found}
use Rattle.hlc_causality.proofs.ReceiveEvents.{clock_events_at, floor_by_rule, rule_floor, rule_ticks, ticks_by_rule}
use Rattle.hlc_causes.specs.declared.answers.Causes.{Causes}
use Rattle.hlc_causes.specs.declared.local.LocalCauses.{LocalCauses}
use Rattle.hlc_causes.specs.declared.local.LocalEvent.{LocalEvent}
use Rattle.hlc_causes.specs.Causes.{NamesCauses}
use Rattle.hlc_causes.specs.Local.{local_causes, local_event, named_if, placed_causes}
use Rattle.hlc_causes.specs.Seen.{seen}
use Rattle.hlc_causes.proofs.CauseLaws.{causes_are_unique}
use Rattle.hlc_causes.proofs.Disorder.{found_is}
use Rattle.hlc_causes.proofs.LinksFound.{exists_received, previous_received, send_of_received}
use Rattle.hlc_causes.proofs.OneEvent.{causes_are_local}
use Rattle.hlc_causes.proofs.Predecessors.{none_found}
use Rattle.hlc_log.specs.declared.log_event.LogEvent.{LogEvent}
use Rattle.hlc_log.specs.declared.log_event.LogKind.{LogKind}
use Rattle.hlc_log.specs.declared.log_event.LogKind.TheVariants.{Local, Outside, Receive, Restart, Send}
use Rattle.hlc_log.specs.CausalOrder.{IsCausalOrder, IsEarlierOf, place_at}
use Rattle.hlc_log.specs.Events.{event_at, own_rule}
use Rattle.hlc_log.specs.Messages.{EachIsSentOnce, SendsTo}
use Rattle.hlc_log.specs.OrderSkeleton.{index_in, position_of, rules_in, send_place, skeleton_event_in, skeleton_in}
use Rattle.hlc_log.proofs.OrderSkeletons.{earlier_from_order, earlier_in_order, earlier_of, length-skeleton_in, own_in, place_exists, place_of_index, same_position, send_from_order, send_in_order, send_is, skeleton_in_at}
use Rattle.hlc_watch.specs.declared.file_line.FileLine.{FileLine}
use Rattle.hlc_watch.specs.declared.records.Claimed.{Claimed}
use Rattle.hlc_watch.specs.declared.records.Records.{Records}
use Rattle.hlc_watch.specs.Coming.{LinesDiffer, NamesSender, NodesStandAsTheyCome, by_lines, claimed_at, clocks_in, latest_of, line_at, previous_at, records_at, seen_in, stamps_in}
use Rattle.hlc_watch.specs.Laws.{RecordsTellCauses}
use Rattle.hlc_watch.specs.Records.{clock_event_by, is_same_line, line_causes, line_if, lined, local_event_of, received, seen_by, seen_stamp}

-- lines are told apart
same_line : (a b : FileLine) → a ≡ b → is_same_line a b ≡ true
same_line a b same = rw (eq-eqb a.file b.file (ap (λ (x : FileLine). x.file) same), eq-eqb a.number b.number (ap (λ (x : FileLine). x.number) same)) refl

other_line : (a b : FileLine) → a ≢ b → is_same_line a b ≡ false
other_line a b other = elim (cases_Bool (a.file == b.file)) [
  | inr differ ↦ rw differ refl
  | inl file ↦ elim (cases_Bool (a.number == b.number)) [
    | inr differ ↦ rw (file, differ) refl
    | inl number ↦
        let file_is = eqb-true a.file b.file file in
        let number_is = eqb-true a.number b.number number in
        absurd (other (λ i. record { file = file_is i; number = number_is i }))
  ]
]

module _ (events : List LogEvent) (node : ℕ) where
  -- the latest event of a node is found
  latest_is : (n d : ℕ) → d < n → (event_at events d).node.0 ≡ node → ((m : ℕ) → d < m → m < n → (event_at events m).node.0 ≢ node)
      → latest_of events node n ≡ Some d
  latest_is zero d less same last = absurd (omega arith)
  latest_is (suc n) d less same last = elim (cases_order d n) [
    | inl is ↦ rw (eq-eqb (event_at events n).node.0 node (ap (λ (x : ℕ). (event_at events x).node.0) (sym is) ∙ same)) (ap (λ (x : ℕ). Some x) (sym is))
    | inr differ ↦ elim differ [
      | inl lt ↦
          rw (ne_eqb (event_at events n).node.0 node (last n lt (omega arith)))
          (latest_is n d lt same (λ m after before. last m after (omega arith)))
      | inr gt ↦ absurd (omega arith)
    ]
  ]

  latest_none : (n : ℕ) → ((m : ℕ) → m < n → (event_at events m).node.0 ≢ node) → latest_of events node n ≡ None
  latest_none zero none = refl
  latest_none (suc n) none = rw (ne_eqb (event_at events n).node.0 node (none n (omega arith))) (latest_none n (λ m before. none m (omega arith)))

-- the rule of an event depends on whether it receives something, and not on what
module _ (receives : Receives) (x y : SkeletonEvent) (some : is_some x.send ≡ is_some y.send) (reading : x.reading ≡ y.reading) where
  same_floor : (rule : Option EventRule) → (event_by receives rule x).floor ≡ (event_by receives rule y).floor
  same_floor None =
      floor_by_rule x receives ∙ ap (λ b. rule_floor b receives x.reading) some ∙ ap (λ (r : ℕ). rule_floor (is_some y.send) receives r) reading
      ∙ sym (floor_by_rule y receives)
  same_floor (Some rule) = refl

  same_ticks : (rule : Option EventRule) → (event_by receives rule x).ticks ≡ (event_by receives rule y).ticks
  same_ticks None = ticks_by_rule x receives ∙ ap (λ b. rule_ticks b receives) some ∙ sym (ticks_by_rule y receives)
  same_ticks (Some rule) = refl

-- what the claims that an event saw tell of another event, and of its send
seen_other : (claimed : List Pair) (o : Option ℕ) (carried : Option Pair) (e : ℕ) → ((d : ℕ) → o ≡ Some d → e ≢ d)
    → pair_at (seen claimed o carried) e ≡ pair_at claimed e
seen_other claimed None None e other = refl
seen_other claimed None (Some p) e other = refl
seen_other claimed (Some d) None e other = refl
seen_other claimed (Some d) (Some p) e other = get_or-set_other claimed d e p zero_pair (other d refl)

module _ (files : ℕ → ℕ) (events : List LogEvent) (order : List ℕ) where
  -- the line of an event, if a rule is broken by its stamp
  line_named : (broken : Bool) (o : Option ℕ) → line_if broken (option_map (claimed_at files events) (option_map (place_at order) o))
      ≡ option_map (λ (d : EventId). line_at files events order d.0) (named_if broken o)
  line_named true None = refl
  line_named true (Some d) = refl
  line_named false None = refl
  line_named false (Some d) = refl

  lined_by : (causes : LocalCauses) (previous send : Option ℕ)
      → lined (option_map (claimed_at files events) (option_map (place_at order) previous)) (option_map (claimed_at files events) (option_map (place_at order) send)) causes
      ≡ by_lines files events order (placed_causes previous send causes)
  lined_by causes previous send = λ i. record {
    behind = causes.behind;
    not_above_previous = line_named causes.not_above_previous previous i;
    not_above_send = line_named causes.not_above_send send i;
    ahead = causes.ahead;
  }

module _ (receives : Receives) (files : ℕ → ℕ) (events : List LogEvent) (order : List ℕ) (once : EachIsSentOnce events) (causal : IsCausalOrder events order)
    (differ : LinesDiffer files events) (stand : NodesStandAsTheyCome events) (k : ℕ) (exists : k < length order) where
  abbrev s : Skeleton
  s = skeleton_in events order

  abbrev rules : ClockRules
  rules = rules_in receives events order

  abbrev t : ClockEvents
  t = clocks_in receives events order

  abbrev e : ℕ
  e = place_at order k

  in_s : k < length s
  in_s = let size = length-skeleton_in events order causal in omega arith

  in_t : k < length t
  in_t = exists_received rules s k in_s

  e_exists : e < length events
  e_exists = place_exists events order causal k exists

  -- what stands before an event at its node came before it
  came_before : (d f : ℕ) → IsEarlierOf events d f → d < f
  came_before d f earlier = elim (cases_order d f) [
    | inl same ↦ absurd (elim earlier.before [ inl less ↦ (let equal = ap (λ (x : ℕ). (event_at events x).seq) same in omega arith) | inr tie ↦ (let less = tie.1 in omega arith) ])
    | inr differ ↦ elim differ [
      | inl lt ↦ lt
      | inr gt ↦
          let rise = stand f d gt earlier.first_exists (sym earlier.same_node) in
          absurd (elim earlier.before [ inl less ↦ omega arith | inr tie ↦ (let less = tie.1 in omega arith) ])
    ]
  ]

  stands_before : (d f : ℕ) → d < f → f < length events → (event_at events d).node.0 ≡ (event_at events f).node.0 → IsEarlierOf events d f
  stands_before d f lt there same =
      let rise = stand d f lt there same in
      record {
        before = elim (cases_order (event_at events d).seq (event_at events f).seq) [
          | inl equal ↦ inr (equal, lt)
          | inr differ ↦ elim differ [ inl less ↦ inl less | inr more ↦ absurd (omega arith) ]
        ];
        first_exists = omega arith;
        exists = there;
        same_node = same;
      }

  -- where another event of the node stands in the order
  position_before : (m : ℕ) → m < e → (event_at events m).node.0 ≡ (event_at events e).node.0
      → (i : ℕ) × (i < length order) × (place_at order i ≡ m) × IsEarlierAtNode s i k
  position_before m before same =
      let at = place_of_index events order causal m (omega (arith, e_exists)) in
      let i = index_in order m in
      let earlier : IsEarlierOf events m e = stands_before m e before e_exists same in
      (i, at.0, at.1, earlier_from_order events order causal i k at.0 exists (subst (λ x. IsEarlierOf events x e) (sym at.1) earlier))

  previous_by : (o : Option ℕ) → previous_of s k ≡ o → Finds (λ d. IsPrevious s d k) o → previous_at events e ≡ option_map (place_at order) o
  previous_by None is none = latest_none events (event_at events e).node.0 e (λ m before same.
      let at = position_before m before same in
      elim (previous_or_first s k in_s) [ inl found ↦ none found.0 found.1 | inr first ↦ first at.0 at.3 ])
  previous_by (Some j) is h =
      let (j_lt, k_lt, earlier) = earlier_in_order events order causal j k h.at_node in
      let d = place_at order j in
      latest_is events (event_at events e).node.0 e d (came_before d e earlier) earlier.same_node (λ m after before same.
      let (i, i_lt, i_is, at_node) = position_before m before same in
      let at_most = h.latest i at_node in
      elim (cases_order i j) [
        | inl equal ↦ (let m_is : m ≡ d = sym i_is ∙ ap (place_at order) equal in omega arith)
        | inr differ ↦ elim differ [
          | inl lt ↦
              let both : (event_at events (place_at order i)).node.0 ≡ (event_at events d).node.0 =
              ap (λ (x : ℕ). (event_at events x).node.0) i_is ∙ same ∙ sym earlier.same_node in
              let m_first = came_before (place_at order i) d (earlier_of events order causal i j lt j_lt both) in
              omega (arith, i_is)
          | inr gt ↦ omega arith
        ]
      ])

  previous_there : previous_at events e ≡ option_map (place_at order) (previous_of s k)
  previous_there = previous_by (previous_of s k) refl (previous_found s k in_s)

  send_there : (send : Option ℕ) → NamesSender events e send → send ≡ option_map (place_at order) (send_of s k)
  send_there None names =
      ap (option_map (place_at order)) (sym (none_found (λ d. IsSendOf s d k) (send_of s k) (send_found s k in_s) (λ i h.
      let found = send_in_order events order causal i k h in names found.2.0 found.2.2)))
  send_there (Some d) names =
      let sent = names.1.exists in
      let at = place_of_index events order causal d sent in
      let i = index_in order d in
      let sends : SendsTo events (place_at order i) e = subst (λ x. SendsTo events x e) (sym at.1) names in
      let is = found_is (λ x. IsSendOf s x k) (λ x y. send_is_unique s x y k) (send_of s k) (send_found s k in_s) i
      (send_from_order events order causal once i k at.0 exists sends) in
      ap (λ (x : ℕ). Some x) (sym at.1) ∙ ap (option_map (place_at order)) (sym is)

  -- whether it receives something
  receives_something : (send : Option ℕ) → NamesSender events e send → is_some (skeleton_event_in events order e).send ≡ is_some (received (event_at events e).kind)
  receives_something (Some d) names =
      let sent = names.1.exists in
      let at = place_of_index events order causal d sent in
      let i = index_in order d in
      let sends : SendsTo events (place_at order i) e = subst (λ x. SendsTo events x e) (sym at.1) names in
      ap is_some (send_is events order causal once i k at.0 exists sends) ∙ sym (ap (λ kind. is_some (received kind)) names.2.kind)
  receives_something None names = by_kind (event_at events e).kind (λ m is. names m (record { exists = e_exists; kind = is }))
    where
      by_kind : (kind : LogKind) → ((m : ℕ) → kind ≢ Receive (record { 0 = m })) → is_some (option_and_then (position_of order) (send_place events kind)) ≡ is_some (received kind)
      by_kind Local no_receive = refl
      by_kind Restart no_receive = refl
      by_kind Outside no_receive = refl
      by_kind (Send m) no_receive = refl
      by_kind (Receive m) no_receive = absurd (no_receive m.0 refl)

  event_there : clock_event_at t k ≡ event_by receives (own_rule receives (event_at events e)) (skeleton_event_in events order e)
  event_there =
      clock_events_at rules s k in_s
      ∙ ap (λ (rule : Option EventRule). event_by receives rule (skeleton_at s k)) (own_in events order causal receives k exists)
      ∙ ap (event_by receives (own_rule receives (event_at events e))) (skeleton_in_at events order causal k exists)

  -- stamps
  length-stamps : length (stamps_in events order) ≡ length order
  length-stamps = length-map order (λ (x : ℕ). (event_at events x).stamp)

  stamp_at : (j : ℕ) → j < length order → pair_at (stamps_in events order) j ≡ (event_at events (place_at order j)).stamp
  stamp_at j lt = get_or-map (λ (x : ℕ). (event_at events x).stamp) order j 0 zero_pair lt

  abbrev carried : Option Pair
  carried = (event_at events e).carried

  abbrev claims : List Pair
  claims = seen (stamps_in events order) (send_of s k) carried

  claims_are : seen_in receives events order k ≡ claims
  claims_are = ap (λ (o : Option ℕ). seen (stamps_in events order) o carried) (sym (send_of_received rules s k))

  send_earlier : (d : ℕ) → send_of s k ≡ Some d → IsSendOf s d k
  send_earlier d is = subst (Finds (λ x. IsSendOf s x k)) is (send_found s k in_s)

  previous_earlier : (d : ℕ) → previous_of s k ≡ Some d → IsPrevious s d k
  previous_earlier d is = subst (Finds (λ x. IsPrevious s x k)) is (previous_found s k in_s)

  own_stamp : pair_at claims k ≡ (event_at events e).stamp
  own_stamp =
      seen_other (stamps_in events order) (send_of s k) carried k
      (λ d is same. (let earlier = (send_earlier d is).earlier in omega arith)) ∙ stamp_at k exists

  -- lines of events at other positions differ
  lines_differ : (i j : ℕ) → i < length order → j < length order → i ≢ j → line_at files events order i ≢ line_at files events order j
  lines_differ i j i_lt j_lt other = elim (cases_order (place_at order i) (place_at order j)) [
    | inl same ↦ absurd (other (same_position events order causal i j i_lt j_lt same))
    | inr apart ↦ elim apart [
      | inl lt ↦ differ (place_at order i) (place_at order j) lt (place_exists events order causal j j_lt)
      | inr gt ↦ λ same. differ (place_at order j) (place_at order i) gt (place_exists events order causal i i_lt) (sym same)
    ]
  ]

  abbrev claimed_in : ℕ → Claimed
  claimed_in j = claimed_at files events (place_at order j)

  -- the event saw the stamp at a position so
  seen_so : (o : Option ℕ) → ((d : ℕ) → o ≡ Some d → d < length order) → (p : Option Pair) (j : ℕ) → j < length order
      → seen_by (option_map claimed_in o) p (claimed_in j) ≡ pair_at (seen (stamps_in events order) o p) j
  seen_so None there None j lt = sym (stamp_at j lt)
  seen_so None there (Some p) j lt = sym (stamp_at j lt)
  seen_so (Some d) there None j lt = sym (stamp_at j lt)
  seen_so (Some d) there (Some p) j lt = elim (cases_order d j) [
    | inl same ↦
        let within : d < length (stamps_in events order) = omega (arith, there d refl, length-stamps) in
        ap (λ (test : Bool). if test then p else (claimed_in j).stamp)
        (same_line (line_at files events order d) (line_at files events order j) (ap (line_at files events order) same)) ∙
        (sym (ap (λ (x : ℕ). pair_at (slice_set (stamps_in events order) d p) x) (sym same) ∙ get_or-set_same (stamps_in events order) d p zero_pair within))
    | inr apart ↦
        let other : d ≢ j = λ same. elim apart [ inl lt' ↦ omega arith | inr gt ↦ omega arith ] in
        ap (λ (test : Bool). if test then p else (claimed_in j).stamp)
        (other_line (line_at files events order d) (line_at files events order j) (lines_differ d j (there d refl) lt other)) ∙
        (sym (get_or-set_other (stamps_in events order) d j p zero_pair (λ same. other (sym same)) ∙ stamp_at j lt))
  ]

  sends_stand : (d : ℕ) → send_of s k ≡ Some d → d < length order
  sends_stand d is = let h = send_earlier d is in omega (arith, h.earlier, exists)

  seen_any : (o : Option ℕ) → ((j : ℕ) → o ≡ Some j → j < length order)
      → option_map (seen_by (option_map claimed_in (send_of s k)) carried) (option_map claimed_in o) ≡ option_map (pair_at claims) o
  seen_any None there = refl
  seen_any (Some j) there = ap (λ (p : Pair). Some p) (seen_so (send_of s k) sends_stand carried j (there j refl))

  module _ (send : Option ℕ) (names : NamesSender events e send) where
    abbrev records : Records
    records = records_at receives files events e send

    floor_is : (clock_event_by receives (event_at events e)).floor ≡ (clock_event_at t k).floor
    floor_is =
        let x = skeleton_event_in events order e in
        let y : SkeletonEvent = record { node = (event_at events e).node.0; reading = (event_at events e).reading; send = received (event_at events e).kind } in
        sym (ap (λ (c : ClockEvent). c.floor) event_there ∙ same_floor receives x y (receives_something send names) refl (own_rule receives (event_at events e)))

    ticks_is : (clock_event_by receives (event_at events e)).ticks ≡ (clock_event_at t k).ticks
    ticks_is =
        let x = skeleton_event_in events order e in
        let y : SkeletonEvent = record { node = (event_at events e).node.0; reading = (event_at events e).reading; send = received (event_at events e).kind } in
        sym (ap (λ (c : ClockEvent). c.ticks) event_there ∙ same_ticks receives x y (receives_something send names) refl (own_rule receives (event_at events e)))

    twice : (o : Option ℕ) → option_map (claimed_at files events) (option_map (place_at order) o) ≡ option_map claimed_in o
    twice None = refl
    twice (Some j) = refl

    sent_is : records.send ≡ option_map claimed_in (send_of s k)
    sent_is = ap (option_map (claimed_at files events)) (send_there send names) ∙ twice (send_of s k)

    before_is : records.previous ≡ option_map claimed_in (previous_of s k)
    before_is = ap (option_map (claimed_at files events)) previous_there ∙ twice (previous_of s k)

    previous_stands : (j : ℕ) → previous_of s k ≡ Some j → j < length order
    previous_stands j is = let h = (previous_earlier j is).at_node in omega (arith, h.earlier, exists)

    previous_is : option_map (seen_stamp records) records.previous ≡ option_map (pair_at claims) (previous_of (clock_skeleton t) k)
    previous_is =
        ap (λ (o : Option Claimed). option_map (seen_by o carried) records.previous) sent_is
        ∙ ap (option_map (seen_by (option_map claimed_in (send_of s k)) carried)) before_is
        ∙ seen_any (previous_of s k) previous_stands ∙ ap (option_map (pair_at claims)) (previous_received rules s k)

    send_is_seen : option_map (seen_stamp records) records.send ≡ option_map (pair_at claims) (send_of (clock_skeleton t) k)
    send_is_seen =
        ap (λ (o : Option Claimed). option_map (seen_by o carried) records.send) sent_is
        ∙ ap (option_map (seen_by (option_map claimed_in (send_of s k)) carried)) sent_is
        ∙ seen_any (send_of s k) sends_stand ∙ ap (option_map (pair_at claims)) (send_of_received rules s k)

    local_is : local_event_of records ≡ local_event t claims k
    local_is = λ i. record {
      rule = record { floor = floor_is i; ticks = ticks_is i };
      stamp = sym own_stamp i;
      previous = previous_is i;
      send = send_is_seen i;
    }

    causes_told : (full : ℕ) (answer : Causes) → NamesCauses t claims full k answer → line_causes full records ≡ by_lines files events order answer
    causes_told full answer named =
        let previous = previous_of (clock_skeleton t) k in
        let sent = send_of (clock_skeleton t) k in
        let local = local_causes full (local_event t claims k) in
        let is : placed_causes previous sent local ≡ answer =
        causes_are_unique t claims full k (placed_causes previous sent local) answer in_t (causes_are_local t claims full k in_t) named in
        ap (λ (x : LocalEvent). lined records.previous records.send (local_causes full x)) local_is
        ∙ ap (λ (o : Option ℕ). lined (option_map (claimed_at files events) o) records.send local) (previous_there ∙ ap (option_map (place_at order)) (previous_received rules s k))
        ∙ ap (λ (o : Option ℕ). lined (option_map (claimed_at files events) (option_map (place_at order) previous)) (option_map (claimed_at files events) o) local)
        (send_there send names ∙ ap (option_map (place_at order)) (send_of_received rules s k))
        ∙ lined_by files events order local previous sent ∙ ap (by_lines files events order) is

pub records_tell_causes : RecordsTellCauses
records_tell_causes receives files events order full k send answer once differ stand causal exists names named =
    causes_told receives files events order once causal differ stand k exists send names full answer
    (subst (λ (p : List Pair). NamesCauses (clocks_in receives events order) p full k answer) (claims_are receives files events order once causal differ stand k exists) named)
