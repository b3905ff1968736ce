-- A lawful history, asked again, is accepted event by event and given again.
use Rattle.std.proofs.Common.{◌≡◌, ◌≢◌, ◌∙◌, ℕ, ◌<◌, ◌≤◌, inl, inr, Bool, true, false, ◌||◌, List, [], ◌∷◌, ◌++◌, length, arith, refl, subst, sym, ap, append-nil, append_assoc, Option, Some, None}
use Rattle.std.specs.Prelude.{◌==◌, IsSome, is_some, map, nat_le, nat_lt, take, unwrap_or}
use Rattle.std.specs.List.{list_any}
use Rattle.std.proofs.Math.Bool.{or-true}
use Rattle.std.proofs.Math.Seq.{get_or-append_seam, take-append_seam}
use Rattle.std.proofs.lemmas.Bool.{cases_eq, eq-eqb, ne_eqb}
use Rattle.std.proofs.lemmas.Bool.Decides.{nat_tests}
use Rattle.std.proofs.lemmas.List.{get_or_append_left, length-append, length_push, take-append-le}
use Rattle.std.proofs.lemmas.List.Folds.{list_any-append}
use Rattle.hlc_stamp.specs.Order.{Pair}
use Rattle.hlc_stamp.specs.declared.limits.TheConstants.{MAX_CAPACITY, MAX_NODES, MAX_READING, MIN_NODES}
use Rattle.hlc_arena.specs.Arena.{IsKey, IsSized, IsValue, MayFollow}
use Rattle.hlc_arena.specs.ClockRule.{FollowsClockRule, HasLeastStamps, MeetsClockRule, drift_of}
use Rattle.hlc_arena.specs.EntryLaws.{AllNamesFit, IsWriteOf, NamesFit}
use Rattle.hlc_arena.specs.History.{Delivered, EachAfterOthers, Erased, Event, EventKind, History, Sent, StampedEvent, Synced, Written, event_at, stamped_at, target_of}
use Rattle.hlc_arena.specs.Known.{entry_of, everywhere, key_at, table_writes}
use Rattle.hlc_arena.proofs.ClockRules.{clock_rule_is_least}
use Rattle.hlc_arena.proofs.Entries.{entries_are_known_lem}
use Rattle.hlc_arena.proofs.Following.{well_formed_names_fit}
use Rattle.hlc_arena.proofs.Histories.{no_stamped_event}
use Rattle.hlc_arena.proofs.Places.{stamped_at-before, stamped_at-last}
use Rattle.hlc_core.specs.Asked.{AddsUnless, Asked, StepsAlong, StepsTo, with_stamp}
use Rattle.hlc_core.specs.declared.refusal.Refusal.{Refusal}
use Rattle.hlc_core.specs.Lawful.{CarriesEntries, IsLawful, IsLawfulNext, IsRequested}
use Rattle.hlc_core.specs.Limit.{AreWithinLimit, IsWithinLimit, drift_if_next, exceeds}
use Rattle.hlc_core.specs.Replay.{AllAccepted, ClustersReplay, IsReached, LawfulIsReached, ReplayGivesEqualHistory, asked_again, event_again, request_for}
use Rattle.hlc_core.specs.Request.{ToSend}
use Rattle.hlc_core.specs.State.{State, is_live, is_target, new_refusal, new_state}
use Rattle.hlc_core.specs.Step.{PassesCommon, event_for, event_with, first_refusal, is_bad_key, is_bad_value, kind_for, live_after, own_refusals, refusal_of, state_with}
use Rattle.hlc_core.proofs.Answering.{let_through, may_be_delivered, may_be_sent, may_be_synced, target_passes}
use Rattle.hlc_core.proofs.AskedSteps.{new_is_sound, one_stamp, some_state_follows, stays_sound}
use Rattle.hlc_core.proofs.Drifts.{drift_at, drift_of_lawful, not_exceeded_if_within}
use Rattle.hlc_core.proofs.OneMore.{IsSendAt}

-- what holds of each event after those before it holds of this one
pub each_at_seam :
    (R : List StampedEvent → StampedEvent → Type 0) (before : List StampedEvent) (x : StampedEvent) (rest : List StampedEvent) →
    EachAfterOthers R (before ++ x ∷ rest) → R before x
each_at_seam R before x rest each =
    let size = length-append before (x ∷ rest) in
    let here = stamped_at (before ++ x ∷ rest) (length before) in
    subst (λ (y : StampedEvent). R before y) (get_or-append_seam before x rest no_stamped_event)
    (subst (λ (others : List StampedEvent). R others here) (take-append_seam before (x ∷ rest)) (each (length before) (omega (arith, size))))

-- what is asked of every request lets a lawful event through
common_let_through : (s : State) (node reading : ℕ) → node < s.history.nodes → 1 ≤ reading → reading ≤ MAX_READING →
    length s.history.events < s.history.capacity → PassesCommon s node reading
common_let_through s node reading exists positive in_range room =
    let a : nat_le s.history.nodes node ≡ false = grind (arith, nat_tests, exists) in
    let b : (reading == 0) ≡ false = grind (arith, nat_tests, positive) in
    let c : nat_lt MAX_READING reading ≡ false = grind (arith, nat_tests, in_range) in
    let d : nat_le s.history.capacity (length s.history.events) ≡ false = grind (arith, nat_tests, room) in
    rw (a, b, c, d) refl

key_is_good : (key : List ℕ) → IsKey key → is_bad_key key ≡ false
key_is_good key h = grind (arith, nat_tests, h.0, h.1)

some_counted : (xs : List ℕ) → xs ≢ [] → (length xs == 0) ≡ false
some_counted [] some = absurd (some refl)
some_counted (x ∷ xs) some = grind (arith, nat_tests)

value_is_good : (value : List ℕ) → IsValue value → is_bad_value value ≡ false
value_is_good value h = grind (arith, nat_tests, h)

-- a write of a size that a history takes has such a key
key_of_write : (key : List ℕ) (k : EventKind) → IsSized k → IsWriteOf key k → IsKey key
key_of_write key (Written own value) sized is = subst IsKey is.1 sized.0
key_of_write key (Erased own) sized is = subst IsKey is.1 sized
key_of_write key (Sent to write) sized is = absurd is.0
key_of_write key (Synced to writes) sized is = absurd is.0
key_of_write key (Delivered sent) sized is = absurd is.0

module _
    (h : History) (limit : Option ℕ) (lawful : IsLawful h) (follows : FollowsClockRule h.events) (drifts : AreWithinLimit limit h.events) where
  -- these events of the history, and these live messages
  abbrev after : List StampedEvent → List ℕ → State
  after before live = record { history = record { nodes = h.nodes; capacity = h.capacity; events = before }; live = live; limit = limit }

  -- every message that was sent so far is live
  abbrev AllLive : List StampedEvent → List ℕ → Type 0
  AllLive before live = (m : ℕ) → IsSendAt before m → is_live (after before live) m ≡ true

  module _ (before : List StampedEvent) (x : StampedEvent) (rest : List StampedEvent) (whole : before ++ x ∷ rest ≡ h.events) where
    within : length before < length h.events
    within = let size = length-append before (x ∷ rest) in let same = ap length whole in omega (arith, size, same)

    -- what stands in the history before x stands there in the whole
    there : (e : ℕ) → e < length before → stamped_at h.events e ≡ stamped_at before e
    there e lt =
        ap (λ (events : List StampedEvent). stamped_at events e) (sym whole)
        ∙ get_or_append_left before (x ∷ rest) no_stamped_event e lt

    here : stamped_at h.events (length before) ≡ x
    here =
        ap (λ (events : List StampedEvent). stamped_at events (length before)) (sym whole)
        ∙ get_or-append_seam before x rest no_stamped_event

    at_seam : (R : List StampedEvent → StampedEvent → Type 0) → EachAfterOthers R h.events → R before x
    at_seam R each = each_at_seam R before x rest (subst (EachAfterOthers R) (sym whole) each)

    next : IsLawfulNext h.nodes before x.event
    next = record {
      follows = at_seam (λ others y. MayFollow h.nodes others y.event) lawful.well_formed.each;
      requested = at_seam (λ others y. IsRequested others y.event) lawful.requested;
    }

    clock : MeetsClockRule before x
    clock = at_seam MeetsClockRule follows

    -- the drift that x would have is the one that it has
    near : exceeds limit (drift_if_next before x.event) ≡ false
    near =
        let size = within in
        let drift : drift_of h.events (length before) ≡ drift_if_next before x.event =
        drift_at h.events (length before) x here ∙ drift_of_lawful h.nodes before x next clock in
        let drifted = subst (IsWithinLimit limit) drift (drifts (length before) (omega arith)) in
        not_exceeded_if_within limit (drift_if_next before x.event) drifted

    fit : AllNamesFit before
    fit e lt =
        let others : take e h.events ≡ take e before = ap (take e) (sym whole) ∙ take-append-le e before (x ∷ rest) (omega arith) in
        let size = within in
        let names = well_formed_names_fit h lawful.well_formed e (omega arith) in
        subst (λ (ys : List StampedEvent). NamesFit ys (event_at before e).kind) others
        (subst (λ (y : StampedEvent). NamesFit (take e h.events) y.event.kind) (there e lt) names)

    -- a send, asked again by the key of the write that it carries, finds that write
    finds_write : (node write : ℕ) (key : List ℕ) → entry_of before everywhere node key ≡ Some write →
        (key_at h.events write ≡ key) × IsKey key
    finds_write node write key is =
        let known = entries_are_known_lem before everywhere node key write fit is in
        let size = within in
        let exists = known.exists in
        let same : event_at h.events write ≡ event_at before write = ap (λ (y : StampedEvent). y.event) (there write exists) in
        let wrote : IsWriteOf key (event_at h.events write).kind = subst (λ (e : Event). IsWriteOf key e.kind) (sym same) known.write in
        (wrote.1, key_of_write key (event_at h.events write).kind (lawful.well_formed.each write (omega arith)).sized wrote)

    module _ (live : List ℕ) (all : AllLive before live) where
      abbrev s : State
      s = after before live

      own_let_through : (node reading : ℕ) (k : EventKind) → IsLawfulNext h.nodes before (event_with node reading k) →
          first_refusal (own_refusals s node (request_for h.events k)) ≡ None
      own_let_through node reading (Written key value) may =
          let sized : IsKey key × IsValue value = may.follows.sized in
          rw (key_is_good key sized.0, value_is_good value sized.1) refl
      own_let_through node reading (Erased key) may = rw (key_is_good key may.follows.sized) refl
      own_let_through node reading (Sent to write) may =
          let target : (to < h.nodes) × (to ≢ node) = may.follows.target in
          let entry : (key : List ℕ) × (entry_of before everywhere node key ≡ Some write) = may.requested.entries in
          let found = finds_write node write entry.0 entry.1 in
          let exists : nat_le h.nodes to ≡ false = grind (arith, nat_tests, target.0) in
          let passes = target_passes s node to exists (ne_eqb to node target.1) in
          subst (λ (key : List ℕ). first_refusal (own_refusals s node (ToSend to key)) ≡ None) (sym found.0)
          (may_be_sent s node to write entry.0 (key_is_good entry.0 found.1) passes entry.1)
      own_let_through node reading (Synced to writes) may =
          let target : (to < h.nodes) × (to ≢ node) = may.follows.target in
          let entries : writes ≡ table_writes before everywhere node = may.requested.entries in
          let exists : nat_le h.nodes to ≡ false = grind (arith, nat_tests, target.0) in
          may_be_synced s node to (target_passes s node to exists (ne_eqb to node target.1))
          (ap (λ (ws : List ℕ). length ws == 0) (sym entries) ∙ some_counted writes (may.follows.carries refl).some)
      own_let_through node reading (Delivered sent) may =
          let addressed : target_of (event_at before sent).kind ≡ Some node = may.follows.addressed in
          let sends = subst (λ (o : Option ℕ). IsSome o) (sym addressed) refl in
          let lives = all sent (may.follows.names.earlier.delivered, sends) in
          may_be_delivered s node sent lives (ap (is_target node) addressed ∙ eq-eqb node node refl)

      kind_again : (node : ℕ) (k : EventKind) → CarriesEntries before node k → kind_for s node (request_for h.events k) ≡ k
      kind_again node (Written key value) entries = refl
      kind_again node (Erased key) entries = refl
      kind_again node (Sent to write) entries =
          let found = finds_write node write entries.0 entries.1 in
          ap (λ (key : List ℕ). Sent to (unwrap_or (entry_of before everywhere node key) 0)) found.0
          ∙ ap (λ (o : Option ℕ). Sent to (unwrap_or o 0)) entries.1
      kind_again node (Synced to writes) entries = ap (Synced to) (sym entries)
      kind_again node (Delivered sent) entries = refl

      event_again_is : event_for s x.event.node x.event.reading (request_for h.events x.event.kind) ≡ x.event
      event_again_is = ap (event_with x.event.node x.event.reading) (kind_again x.event.node x.event.kind next.requested.entries)

      accepted : refusal_of s x.event.node x.event.reading (request_for h.events x.event.kind) ≡ None
      accepted =
          let node = x.event.node in
          let reading = x.event.reading in
          let request = request_for h.events x.event.kind in
          let size = within in
          let room = lawful.well_formed.within_capacity in
          let asked = next.requested in
          let passes = common_let_through s node reading next.follows.node asked.positive asked.in_range (omega arith) in
          let_through s node reading request passes (own_let_through node reading x.event.kind next)
          (ap (λ (e : Event). exceeds limit (drift_if_next before e)) event_again_is ∙ near)

      -- messages that were live stay so, and so does that of x if it sends one
      live_more : (more : List ℕ) → ((m : ℕ) → list_any (λ l. m == l) live ≡ true → list_any (λ l. m == l) more ≡ true) →
          (IsSome (target_of x.event.kind) → list_any (λ l. length before == l) more ≡ true) → AllLive (before ++ x ∷ []) more
      live_more more keeps new m sends = elim (cases_eq m (length before)) [
        | inl last ↦
            let is_x = ap (stamped_at (before ++ x ∷ [])) last ∙ stamped_at-last before x in
            let here_sends : IsSome (target_of x.event.kind) =
            subst (λ (y : StampedEvent). IsSome (target_of y.event.kind)) is_x sends.1 in
            subst (λ (n : ℕ). list_any (λ l. n == l) more ≡ true) (sym last) (new here_sends)
        | inr other ↦
            let size = length_push before x in
            let lt : m < length before = omega (arith, sends.0) in
            keeps m (all m (lt, subst (λ (y : StampedEvent). IsSome (target_of y.event.kind)) (stamped_at-before before x m lt) sends.1))
      ]

      sends_none : (k : EventKind) → target_of k ≡ None → x.event.kind ≡ k → IsSome (target_of x.event.kind) → ⊥
      sends_none k none is some =
          let nowhere : is_some (target_of x.event.kind) ≡ false = ap is_some (ap target_of is ∙ none) in
          absurd (cc)

      -- with its own message, if it sends one
      live_with_own : AllLive (before ++ x ∷ []) (live ++ length before ∷ [])
      live_with_own =
          let own = length before in
          let lives : ℕ → List ℕ → Bool = λ m xs. list_any (λ n. m == n) xs in
          let either : (m : ℕ) → lives m (live ++ own ∷ []) ≡ (lives m live || lives m (own ∷ [])) =
          λ m. list_any-append (λ n. m == n) live (own ∷ []) in
          live_more (live ++ own ∷ [])
          (λ m l. either m ∙ ap (λ (b : Bool). b || lives m (own ∷ [])) l)
          (λ some. either own ∙ ap (λ (b : Bool). lives own live || (b || false)) (eq-eqb own own refl) ∙ or-true (lives own live))

      live_again : (node : ℕ) (k : EventKind) → x.event.kind ≡ k → AllLive (before ++ x ∷ []) (live_after s node (request_for h.events k))
      live_again node (Written key value) is = live_more live (λ m l. l) (λ some. absurd (sends_none (Written key value) refl is some))
      live_again node (Erased key) is = live_more live (λ m l. l) (λ some. absurd (sends_none (Erased key) refl is some))
      live_again node (Sent to write) is = live_with_own
      live_again node (Synced to writes) is = live_with_own
      live_again node (Delivered sent) is = live_more live (λ m l. l) (λ some. absurd (sends_none (Delivered sent) refl is some))

      -- the state after x is asked again: x has happened again, with its stamp
      stepped : (t : State) → StepsTo s (event_again h.events x) t →
          (more : List ℕ) × AllLive (before ++ x ∷ []) more × (t ≡ after (before ++ x ∷ []) more)
      stepped t step =
          let request = request_for h.events x.event.kind in
          let e = event_for s x.event.node x.event.reading request in
          let more = live_after s x.event.node request in
          let adds : AddsUnless None s e more t = subst (λ (o : Option Refusal). AddsUnless o s e more t) accepted step in
          let kind : event_for s x.event.node x.event.reading request ≡ x.event = event_again_is in
          let meets : MeetsClockRule before (with_stamp x.event adds.0) =
          subst (λ (f : Event). MeetsClockRule before (with_stamp f adds.0)) kind adds.1 in
          let stamp : adds.0 ≡ x.stamp = one_stamp before x.event adds.0 x.stamp meets clock in
          let same : t ≡ after (before ++ x ∷ []) more =
          adds.2 ∙ ap (λ (f : Event). state_with s (with_stamp f adds.0) more) kind
          ∙ ap (λ (p : Pair). state_with s (with_stamp x.event p) more) stamp in
          (more, live_again x.event.node x.event.kind refl, same)

  -- the requests of events, asked again
  abbrev asked_for : List StampedEvent → List Asked
  asked_for events = map (event_again h.events) events

  -- the events that are left, asked again
  all_accepted : (rest before : List StampedEvent) (live : List ℕ) → before ++ rest ≡ h.events → AllLive before live →
      AllAccepted (after before live) (asked_for rest)
  all_accepted [] before live whole all = tt
  all_accepted (x ∷ rest) before live whole all = (
    accepted before x rest whole live all,
    λ t step.
        let now = stepped before x rest whole live all t step in
        subst (λ (u : State). AllAccepted u (asked_for rest)) (sym now.2)
        (all_accepted rest (before ++ x ∷ []) now.0 (append_assoc before (x ∷ []) rest ∙ whole) now.1),
  )

  equal_at_end : (rest before : List StampedEvent) (live : List ℕ) (t : State) → before ++ rest ≡ h.events → AllLive before live →
      StepsAlong (after before live) (asked_for rest) t → t.history ≡ h
  equal_at_end [] before live t whole all along =
      let with_events : List StampedEvent → History = λ events. record { nodes = h.nodes; capacity = h.capacity; events = events } in
      ap (λ (s : State). s.history) along ∙ ap with_events (sym (append-nil before) ∙ whole)
  equal_at_end (x ∷ rest) before live t whole all along =
      let now = stepped before x rest whole live all along.0 along.1 in
      equal_at_end rest (before ++ x ∷ []) now.0 t (append_assoc before (x ∷ []) rest ∙ whole) now.1
      (subst (λ (u : State). StepsAlong u (asked_for rest) t) now.2 along.2)

-- the numbers of a lawful history are those of a cluster
new_is_not_refused : (h : History) → IsLawful h → new_refusal h.nodes h.capacity ≡ None
new_is_not_refused h lawful =
    let a : nat_lt h.nodes MIN_NODES ≡ false = grind (arith, nat_tests, lawful.well_formed.enough_nodes) in
    let b : nat_lt MAX_NODES h.nodes ≡ false = grind (arith, nat_tests, lawful.well_formed.few_nodes) in
    let c : nat_lt h.capacity 1 ≡ false = grind (arith, nat_tests, lawful.well_formed.some_capacity) in
    let d : nat_lt MAX_CAPACITY h.capacity ≡ false = grind (arith, nat_tests, lawful.well_formed.small_capacity) in
    rw (a, b, c, d) refl

pub replay_gives_equal_history : ReplayGivesEqualHistory
replay_gives_equal_history h limit lawful least within =
    let follows = (clock_rule_is_least h.events).1 least in
    let none_live : (m : ℕ) → IsSendAt [] m → list_any (λ l. m == l) [] ≡ true = λ m sends. absurd (omega (arith, sends.0)) in
    record {
      new = new_is_not_refused h lawful;
      accepted = all_accepted h limit lawful follows within h.events [] [] refl none_live;
      equal = λ s along. equal_at_end h limit lawful follows within h.events [] [] s refl none_live along;
    }

pub clusters_replay : ClustersReplay
clusters_replay s sound = replay_gives_equal_history s.history s.limit sound.lawful.history sound.least sound.within

reached_by_replay : (h : History) → IsLawful h → HasLeastStamps h.events → IsReached h
reached_by_replay h lawful least =
    let gives = replay_gives_equal_history h None lawful least (λ e lt. tt) in
    let end = some_state_follows (new_state h.nodes h.capacity None) (asked_again h.events) in
    record { new = gives.new; asked = asked_again h.events; state = end.0; along = end.1; equal = gives.equal end.0 end.1 }

reached_is_lawful : (h : History) → IsReached h → IsLawful h × HasLeastStamps h.events
reached_is_lawful h reached =
    let first = new_state h.nodes h.capacity None in
    let new = new_is_sound h.nodes h.capacity None reached.new in
    let sound = stays_sound first reached.state reached.asked new reached.along in (
      subst IsLawful reached.equal sound.lawful.history,
      subst (λ (g : History). HasLeastStamps g.events) reached.equal sound.least,
    )

pub lawful_is_reached : LawfulIsReached
lawful_is_reached h = (λ is. reached_by_replay h is.0 is.1, reached_is_lawful h)
