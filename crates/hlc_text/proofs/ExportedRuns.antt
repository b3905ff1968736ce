-- An exported history asks for its events again, and a run of it gives an equal history.
use Rattle.std.proofs.Common.{◌≡◌, ◌≢◌, ◌∙◌, ℕ, ◌+◌, ◌^◌, ◌<◌, ◌≤◌, List, [], ◌∷◌, ◌++◌, Option, Some, None, Result, Ok, arith, length, map, refl, subst, sym, ap, take}
use Rattle.std.specs.Prelude.{All, option_map}
use Rattle.std.proofs.lemmas.List.{get_or_default, length-map, length_push}
use Rattle.std.proofs.lemmas.List.Elements.{All-head, All-tail}
use Rattle.hlc_stamp.specs.Order.{Pair}
use Rattle.hlc_arena.specs.Arena.{IsWellFormed, MayFollow, history_of}
use Rattle.hlc_causality.specs.Assignment.{pair_at}
use Rattle.hlc_arena.specs.ClockRule.{FollowsClockRule, HasLeastStamps}
use Rattle.hlc_arena.specs.History.{Delivered, Erased, EventKind, History, Sent, StampedEvent, Synced, Written, stamped_at}
use Rattle.hlc_arena.specs.Known.{key_at}
use Rattle.hlc_arena.proofs.ClockRules.{clock_rule_is_least}
use Rattle.hlc_arena.proofs.Histories.{no_stamped_event}
use Rattle.hlc_arena.proofs.HistoryPlaces.{size_before}
use Rattle.hlc_core.specs.Asked.{Asked, StepsAlong, StepsTo, with_stamp}
use Rattle.hlc_core.specs.Lawful.{IsLawful}
use Rattle.hlc_core.specs.Limit.{AreWithinLimit}
use Rattle.hlc_core.specs.Replay.{AllAccepted, asked_again, event_again, request_for}
use Rattle.hlc_core.specs.Request.{Request, ToDeliver, ToErase, ToSend, ToSync, ToWrite}
use Rattle.hlc_core.specs.State.{State, new_refusal, new_state}
use Rattle.hlc_core.specs.Step.{event_for, event_with, live_after, refusal_of, refused_or, state_with}
use Rattle.hlc_core.specs.declared.refusal.Refusal.{Refusal}
use Rattle.hlc_core.proofs.Replaying.{replay_gives_equal_history}
use Rattle.hlc_csv.specs.Number.{node_in, number_of}
use Rattle.hlc_csv.specs.Rows.{Fields, field_of}
use Rattle.hlc_csv.specs.declared.bad_record.BadRecord.{BadRecord}
use Rattle.hlc_text.specs.Export.{export_row, export_text}
use Rattle.hlc_text.specs.Replay.{ExportsAskAgain, ExportsRunToEqualHistories, RunsReplay, RunsToEqualHistory, asked_by, asked_in, export_rows}
use Rattle.hlc_text.specs.Run.{Finished, Overran}
use Rattle.hlc_text.specs.Answer.{refusals_in, step_answer}
use Rattle.hlc_text.specs.Script.{answer_of, answer_rows, first_state, parsed_answer, state_after}
use Rattle.hlc_text.specs.Statement.{Act, Statement, act_in, statement_or_number, statement_of}
use Rattle.hlc_text.specs.declared.ran.Ran.{Ran}
use Rattle.hlc_stamp.specs.declared.settings.Settings.{Settings}
use Rattle.hlc_csv.proofs.DecimalFacts.{number_of-decimal, number_up_to-decimal}
use Rattle.hlc_csv.proofs.RecordFacts.{begins_within}
use Rattle.hlc_text.proofs.AskedByScripts.{act_steps, leaves_sound, runs_follow_the_steps, runs_leave_least, script_grows}
use Rattle.hlc_text.proofs.ExportRecords.{exports_read_back}
use Rattle.hlc_text.proofs.ScriptFacts.{refusals_in-append}

-- what an event names fits the type in which a script has it
abbrev NamesInRange : EventKind → Type 0
NamesInRange (Written key value) = Unit {0}
NamesInRange (Erased key) = Unit {0}
NamesInRange (Sent to write) = to ≤ 65535
NamesInRange (Synced to writes) = to ≤ 65535
NamesInRange (Delivered sent) = sent ≤ 4294967295

-- so do its node and its reading
record IsInRange (x : StampedEvent) : Type 0 where
  node : x.event.node ≤ 65535
  reading : x.event.reading < 2 ^ 64
  names : NamesInRange x.event.kind

names_in_range : (h : History) (others : List StampedEvent) (node reading : ℕ) (k : EventKind) → IsWellFormed h
    → length others ≤ length h.events → MayFollow h.nodes others (event_with node reading k) → NamesInRange k
names_in_range h others node reading (Written key value) well few follows = tt
names_in_range h others node reading (Erased key) well few follows = tt
names_in_range h others node reading (Sent to write) well few follows =
    let target : (to < h.nodes) × (to ≢ node) = follows.target in let a = target.0 in let b = well.few_nodes in omega arith
names_in_range h others node reading (Synced to writes) well few follows =
    let target : (to < h.nodes) × (to ≢ node) = follows.target in let a = target.0 in let b = well.few_nodes in omega arith
names_in_range h others node reading (Delivered sent) well few follows =
    let a : sent < length others = follows.names.earlier.delivered in
    let b = well.within_capacity in
    let c = well.small_capacity in
    omega arith

lawful_in_range : (h : History) → IsLawful h → All IsInRange h.events
lawful_in_range h lawful e d lt =
    let x = stamped_at h.events e in
    let follows = lawful.well_formed.each e lt in
    let requested = lawful.requested e lt in
    let few = lawful.well_formed.few_nodes in
    let before = size_before h.events e lt in
    subst IsInRange (get_or_default h.events e no_stamped_event d lt)
    (record {
      node = let a = follows.node in omega arith;
      reading = let a = requested.in_range in omega arith;
      names = names_in_range h (take e h.events) x.event.node x.event.reading x.event.kind lawful.well_formed (omega arith) follows;
    })

-- the fields of a row that has a node and a reading
act_is_read : (fields : Fields) (node reading : ℕ) (request : Request) → node_in fields 1 ≡ Some node
    → number_of (field_of fields 2) ≡ Some reading
    → act_in fields (Some request) ≡ Some (Act node reading request)
act_is_read fields node reading request a b = rw (a, b) refl

-- the record of an event asks for it again
module _ (events : List StampedEvent) (node reading : ℕ) (stamp : Pair) (node_fits : node ≤ 65535) (reading_fits : reading < 2 ^ 64) where
  abbrev row_of : EventKind → Fields
  row_of k = export_row events (record { event = record { node = node; reading = reading; kind = k }; stamp = stamp })

  asks : (k : EventKind) (request : Request) → statement_or_number (act_in (row_of k) (Some request)) ≡ Ok (Act node reading request)
  asks k request =
      ap statement_or_number
      (act_is_read (row_of k) node reading request (number_up_to-decimal 65535 node node_fits (omega arith)) (number_of-decimal reading reading_fits))

  row_asks : (k : EventKind) → NamesInRange k → statement_of (row_of k) ≡ Ok (Act node reading (request_for events k))
  row_asks (Written key value) fits = asks (Written key value) (ToWrite key value)
  row_asks (Erased key) fits = asks (Erased key) (ToErase key)
  row_asks (Sent to write) fits =
      ap (λ (o : Option ℕ). statement_or_number (act_in (row_of (Sent to write)) (option_map (λ t. ToSend t (key_at events write)) o)))
      (number_up_to-decimal 65535 to fits (omega arith))
      ∙ asks (Sent to write) (ToSend to (key_at events write))
  row_asks (Synced to writes) fits =
      ap (λ (o : Option ℕ). statement_or_number (act_in (row_of (Synced to writes)) (option_map (λ t. ToSync t) o)))
      (number_up_to-decimal 65535 to fits (omega arith))
      ∙ asks (Synced to writes) (ToSync to)
  row_asks (Delivered sent) fits =
      ap (λ (o : Option ℕ). statement_or_number (act_in (row_of (Delivered sent)) (option_map (λ m. ToDeliver m) o)))
      (number_up_to-decimal 4294967295 sent fits (omega arith))
      ∙ asks (Delivered sent) (ToDeliver sent)

rows_ask : (events left : List StampedEvent) → All IsInRange left → asked_in (map (export_row events) left) ≡ map (event_again events) left
rows_ask events [] all = refl
rows_ask events (x ∷ left) all =
    let here = All-head IsInRange x left all in
    ap (λ (o : Result Statement BadRecord). asked_by o ++ asked_in (map (export_row events) left))
    (row_asks events x.event.node x.event.reading x.stamp here.node here.reading x.event.kind here.names)
    ∙ ap (λ (asked : List Asked). event_again events x ∷ asked) (rows_ask events left (All-tail IsInRange x left all))

pub exports_ask_again : ExportsAskAgain
exports_ask_again h lawful = rows_ask h.events h.events (lawful_in_range h lawful)

-- a record whose event is not refused isn't refused
module _ (stamp : Pair) (s : State) (node reading : ℕ) (request : Request) (accepted : refusal_of s node reading request ≡ None) where
  act_unrefused : (o : Option Refusal) (new : State) → o ≡ None → refusals_in (step_answer stamp s (refused_or o new)).rows ≡ 0
  act_unrefused None new is = refl
  act_unrefused (Some refusal) new is = absurd (cc)

  answer_unrefused : (o : Result Statement BadRecord) → o ≡ Ok (Act node reading request) → refusals_in (parsed_answer stamp s o).rows ≡ 0
  answer_unrefused o is =
      ap (λ (r : Result Statement BadRecord). refusals_in (parsed_answer stamp s r).rows) is
      ∙ act_unrefused (refusal_of s node reading request)
      (state_with s (with_stamp (event_for s node reading request) stamp) (live_after s node request)) accepted

none_refused : (stamps : List Pair) (events left : List StampedEvent) (s : State) → All IsInRange left
    → AllAccepted s (map (event_again events) left)
    → FollowsClockRule (state_after stamps s (map (export_row events) left)).history.events
    → refusals_in (answer_rows stamps s (map (export_row events) left)) ≡ 0
unfolding state_after answer_rows
none_refused stamps events [] s all accepted follows = refl
none_refused stamps events (x ∷ left) s all accepted follows =
    let here = All-head IsInRange x left all in
    let rows = map (export_row events) left in
    let request = request_for events x.event.kind in
    let stamp = pair_at stamps (length s.history.events) in
    let is = row_asks events x.event.node x.event.reading x.stamp here.node here.reading x.event.kind here.names in
    let next = (answer_of stamps s (export_row events x)).state in
    let stepped : StepsTo s (event_again events x) next =
    subst
    (λ (r : Result Statement BadRecord). (follows : FollowsClockRule (state_after stamps (parsed_answer stamp s r).state rows).history.events) → StepsTo s (event_again events x) (parsed_answer stamp s r).state)
    (sym is)
    (λ f. act_steps s (event_for s x.event.node x.event.reading request) (live_after s x.event.node request) stamp (refusal_of s x.event.node x.event.reading request) (state_after stamps _ rows) (script_grows stamps rows _) f) follows in
    let first = answer_unrefused stamp s x.event.node x.event.reading request accepted.0 (statement_of (export_row events x)) is in
    refusals_in-append (answer_of stamps s (export_row events x)).rows (answer_rows stamps next rows)
    ∙ ap (λ (n : ℕ). n + refusals_in (answer_rows stamps next rows)) first
    ∙ ap (λ (n : ℕ). 0 + n) (none_refused stamps events left next (All-tail IsInRange x left all) (accepted.1 next stepped) follows)

module _ (h : History) (settings : Settings) (lawful : IsLawful h) (least : HasLeastStamps h.events) (nodes : settings.nodes ≡ h.nodes)
    (capacity : settings.capacity ≡ h.capacity)
    (within : AreWithinLimit settings.limit h.events) where
  starts : first_state settings ≡ new_state h.nodes h.capacity settings.limit
  starts = ap (λ (n : ℕ). new_state n settings.capacity settings.limit) nodes ∙ ap (λ (n : ℕ). new_state h.nodes n settings.limit) capacity

  module _ (most : ℕ) (before after : Option (List ℕ)) (ran : Ran)
      (finished : Finished most settings (Some (export_text h.events)) before after ran) where
    abbrev end : State
    end = state_after finished.answered.stamps (first_state settings) finished.records

    records_are : finished.records ≡ export_rows h.events
    records_are = sym (finished.only (export_rows h.events) (exports_read_back h.events).0)

    run_is_equal : (history_of ran.history) ≡ h
    run_is_equal =
        let asked : asked_in finished.records ≡ asked_again h.events = ap asked_in records_are ∙ exports_ask_again h lawful in
        let along : StepsAlong (first_state settings) (asked_in finished.records) end =
        runs_follow_the_steps most settings finished.records before after finished.answered in
        let again : StepsAlong (new_state h.nodes h.capacity settings.limit) (asked_again h.events) end =
        subst (λ (s : State). StepsAlong s (asked_again h.events) end) starts
        (subst (λ (asks : List Asked). StepsAlong (first_state settings) asks end) asked along) in
        finished.history ∙ (replay_gives_equal_history h settings.limit lawful least within).equal end again

    run_refuses_none : ran.counts.refused ≡ 0
    run_refuses_none =
        let stamps = finished.answered.stamps in
        let accepted : AllAccepted (first_state settings) (asked_again h.events) =
        subst (λ (s : State). AllAccepted s (asked_again h.events)) (sym starts)
        (replay_gives_equal_history h settings.limit lawful least within).accepted in
        let follows : FollowsClockRule (state_after stamps (first_state settings) (export_rows h.events)).history.events =
        subst (λ (rs : List Fields). FollowsClockRule (state_after stamps (first_state settings) rs).history.events) records_are
        ((clock_rule_is_least end.history.events).1 finished.answered.least) in
        finished.refused ∙ ap (λ (rs : List Fields). refusals_in (answer_rows stamps (first_state settings) rs)) records_are
        ∙ none_refused stamps h.events h.events (first_state settings) (lawful_in_range h lawful) accepted follows

  run_is_short : (most : ℕ) (before after : Option (List ℕ)) → length h.events ≤ most
      → Overran most settings (Some (export_text h.events)) before after → ⊥
  run_is_short most before after few stopped =
      let fewer =
      begins_within (export_text h.events) (stopped.records ++ stopped.next ∷ []) (export_rows h.events) stopped.begins
      (exports_read_back h.events).0 in
      let more = length_push stopped.records stopped.next in
      let same = length-map h.events (export_row h.events) in
      let full = stopped.full in
      absurd (omega arith)

  runs_to_equal : RunsToEqualHistory h settings
  runs_to_equal = record {
    settings_pass =
        ap (λ (n : ℕ). new_refusal n settings.capacity) nodes ∙ ap (λ (n : ℕ). new_refusal h.nodes n) capacity
        ∙ (replay_gives_equal_history h settings.limit lawful least within).new;
    equal = run_is_equal;
    none_refused = run_refuses_none;
    not_too_long = run_is_short;
  }

pub exports_run_to_equal_histories : ExportsRunToEqualHistories
exports_run_to_equal_histories h settings lawful least nodes capacity within = runs_to_equal h settings lawful least nodes capacity within

pub runs_replay : RunsReplay
runs_replay most settings bytes before after ran none finished =
    let left = leaves_sound most settings bytes before after ran none finished in
    runs_to_equal (history_of ran.history) settings left.lawful (runs_leave_least most settings bytes before after ran finished) left.nodes
    left.capacity left.within
