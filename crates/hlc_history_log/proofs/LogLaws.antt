-- The laws of logs of histories.
use Rattle.std.proofs.Common.{◌≡◌, ◌∙◌, ℕ, zero, suc, ◌^◌, ◌<◌, ◌≤◌, List, [], ◌∷◌, ◌++◌, None, Some, Ok, Result, arith, length, map, refl, sym, ap, subst}
use Rattle.std.specs.Prelude.{All, slice_index_or}
use Rattle.std.proofs.lemmas.List.{get_or-map, length-map, map-append}
use Rattle.hlc_stamp.specs.declared.limits.TheConstants.{MAX_NODES, MAX_READING}
use Rattle.hlc_log.specs.declared.log_event.TheConstants.{MAX_LOG_NODES}
use Rattle.hlc_stamp.specs.Order.{Pair}
use Rattle.hlc_causality.specs.Causality.{SkeletonEvent}
use Rattle.hlc_causality.specs.Places.{places_below}
use Rattle.hlc_causality.proofs.LeastPairs.{counter_is_at_most_place, l_is_greatest_reading}
use Rattle.hlc_causality.proofs.Past.{past_exists}
use Rattle.hlc_causality.proofs.PlacesBelow.{length-places_below, place_at as place_below_at}
use Rattle.hlc_arena.specs.History.{Delivered, Erased, EventKind, History, Sent, Synced, Written, causality_of, event_at, stamp_at, stamped_at, stamps_of}
use Rattle.hlc_arena.proofs.Following.{delivered_exists}
use Rattle.hlc_arena.proofs.Histories.{length_skeleton, pair_at_place, skeleton_at_place}
use Rattle.hlc_csv.specs.RecordLines.{told_lines}
use Rattle.hlc_csv.specs.Rows.{Fields}
use Rattle.hlc_log_text.specs.LogRules.{exact_rules}
use Rattle.hlc_log_text.specs.declared.stamp_form.StampForm.TheVariants as form
use Rattle.hlc_log_text.specs.LogItem.{LogItem, Tells, events_in, item_of, lines_where, questions_in, reasons_in}
use Rattle.hlc_log_text.specs.LogText.{IsLogOf, node_names}
use Rattle.hlc_log_text.specs.ReadText.{ReadText}
use Rattle.hlc_log_text.specs.NamedEvent.{NamedEvent}
use Rattle.hlc_log_text.specs.Question.{plain_asked}
use Rattle.hlc_log_text.specs.Skipped.{is_skip, skipped_in, skipped_on}
use Rattle.hlc_log_text.specs.ReadLog.{MakeItems, SayItems}
use Rattle.hlc_log_text.specs.declared.bad_log.BadLine.{BadLine}
use Rattle.hlc_log_text.specs.declared.bad_log.BadLog.{BadLog}
use Rattle.hlc_log_text.proofs.PlainLogs.{placed_say, said_once}
use Rattle.hlc_log_text.proofs.NamedNodes.{read_names}
use Rattle.hlc_history_log.specs.Label.{label_of}
use Rattle.hlc_history_log.specs.Laws.{IsClocked, IsLogRead, LogsAuditClean, LogsHaveAnOrder, LogsTellEventsAlone, LogsTellNoSeqs, LogsTellNothingCarried, LogsTellReadings, LogsTellStamps, RowsMakeEvents, TellHistory, TellsOf}
use Rattle.hlc_history_log.specs.LogRows.{log_row, log_rows, log_text, message_of}
use Rattle.hlc_history_log.proofs.FewNodes.{IsDecimalBelow, few_names}
use Rattle.hlc_history_log.proofs.HistoryLogs.{IsHistoryLog, is_history_log}
use Rattle.hlc_history_log.proofs.InOrder.{in_order_is_clean, log_in_own_order}
use Rattle.hlc_history_log.proofs.ReadBack.{logs_read_back}
use Rattle.hlc_history_log.proofs.RowsTell.{IsInRange, row_tells, told_event}

-- what a record says if it is good
abbrev said : LogItem → Result LogItem BadLog
said item = Ok item

abbrev tells_it : NamedEvent → LogItem
tells_it told = Tells told

events_told : (told : List NamedEvent) → events_in (map tells_it told) ≡ told
events_told [] = refl
events_told (x ∷ told) = ap (λ (rest : List NamedEvent). x ∷ rest) (events_told told)

nothing_asked : (told : List NamedEvent) → questions_in (map tells_it told) ≡ []
nothing_asked [] = refl
nothing_asked (x ∷ told) = nothing_asked told

nothing_bad : (told : List NamedEvent) → reasons_in (map tells_it told) ≡ []
nothing_bad [] = refl
nothing_bad (x ∷ told) = nothing_bad told

nothing_skipped : (told : List NamedEvent) (lines : List ℕ) → lines_where is_skip (map tells_it told) lines ≡ []
nothing_skipped [] lines = refl
nothing_skipped (x ∷ told) [] = refl
nothing_skipped (x ∷ told) (line ∷ lines) = nothing_skipped told lines

none_mapped : {X Y : Type 0} (f : X → Y) (xs : List X) → map f xs ≡ [] → xs ≡ []
none_mapped f [] none = refl
none_mapped f (x ∷ xs) none = absurd (cc none)

module _ (h : History) (clocked : IsClocked h) where
  -- the numbers of an event are in range
  message_small : (e : ℕ) (k : EventKind) → e < length h.events → (event_at h.events e).kind ≡ k → (m : ℕ) → message_of e k ≡ Some m → m < 2 ^ 64
  message_small e (Written key value) lt is m message = absurd (cc message)
  message_small e (Erased key) lt is m message = absurd (cc message)
  message_small e (Sent to write) lt is m message =
      let same : e ≡ m = cc message in
      let a = clocked.well_formed.within_capacity in
      let b = clocked.well_formed.small_capacity in
      omega arith
  message_small e (Synced to writes) lt is m message =
      let same : e ≡ m = cc message in
      let a = clocked.well_formed.within_capacity in
      let b = clocked.well_formed.small_capacity in
      omega arith
  message_small e (Delivered sent) lt is m message =
      let same : sent ≡ m = cc message in
      let there = delivered_exists h clocked.well_formed e sent lt is in
      let a = clocked.well_formed.within_capacity in
      let b = clocked.well_formed.small_capacity in
      omega arith

  l_small : (e : ℕ) → e < length h.events → (stamp_at h.events e).l ≤ MAX_READING
  l_small e lt =
      let whole = length_skeleton h.events in
      let exists : e < length (causality_of h.events) = omega arith in
      let reached = (l_is_greatest_reading (causality_of h.events) (stamps_of h.events) e exists clocked.least).reached in
      let there = past_exists (causality_of h.events) reached.0 e exists reached.1 in
      let reading = clocked.readings reached.0 (omega (arith, there)) in
      let is = ap (λ (x : SkeletonEvent). x.reading) (skeleton_at_place h.events reached.0) in
      let l = ap (λ (p : Pair). p.l) (pair_at_place h.events e) in
      omega (arith, reached.2, reading.in_range, is, l)

  c_small : (e : ℕ) → e < length h.events → (stamp_at h.events e).c ≤ 4294967295
  c_small e lt =
      let whole = length_skeleton h.events in
      let counts = counter_is_at_most_place (causality_of h.events) (stamps_of h.events) e (omega arith) clocked.least in
      let c = ap (λ (p : Pair). p.c) (pair_at_place h.events e) in
      let a = clocked.well_formed.within_capacity in
      let b = clocked.well_formed.small_capacity in
      omega arith

  pub in_range : (e : ℕ) → e < length h.events → IsInRange e (stamped_at h.events e)
  in_range e lt =
      let reading = clocked.readings e lt in
      record {
        node = let a = (clocked.well_formed.each e lt).node in let b = clocked.well_formed.few_nodes in omega arith;
        positive = reading.positive;
        reading = reading.in_range;
        l = let a = l_small e lt in omega arith;
        c = c_small e lt;
        message = message_small e (event_at h.events e).kind lt refl;
      }

  -- the events, as they are told
  abbrev told_at : ℕ → NamedEvent
  told_at e = told_event e (stamped_at h.events e) (label_of h.events (event_at h.events e).kind)

  abbrev told : List NamedEvent
  told = map told_at (places_below (length h.events))

  told_size : length told ≡ length h.events
  told_size = length-map (places_below (length h.events)) told_at ∙ length-places_below (length h.events)

  told_is : (e : ℕ) (d : NamedEvent) → e < length h.events → slice_index_or told e d ≡ told_at e
  told_is e d lt =
      let size = length-places_below (length h.events) in
      get_or-map told_at (places_below (length h.events)) e 0 d (omega arith) ∙ ap told_at (place_below_at (length h.events) e lt)

  rows_tell : (n : ℕ) → n ≤ length h.events
      → map (item_of (exact_rules form.Pair)) (map (log_row h.events) (places_below n)) ≡ map said (map tells_it (map told_at (places_below n)))
  rows_tell zero le = refl
  rows_tell (suc n) le =
      let read = item_of (exact_rules form.Pair) in
      let row = log_row h.events in
      let places = places_below n in
      let this : read (row n) ≡ said (Tells (told_at n)) =
      row_tells n (stamped_at h.events n) (label_of h.events (event_at h.events n).kind) (in_range n (omega arith)) in
      ap (map read) (map-append row places (n ∷ [])) ∙ map-append read (map row places) (row n ∷ [])
      ∙ ap (λ (before : List (Result LogItem BadLog)). before ++ read (row n) ∷ []) (rows_tell n (omega arith))
      ∙ ap (λ (last : Result LogItem BadLog). map said (map tells_it (map told_at places)) ++ last ∷ []) this
      ∙ sym (ap (λ (all : List NamedEvent). map said (map tells_it all)) (map-append told_at places (n ∷ []))
      ∙ ap (map said) (map-append tells_it (map told_at places) (told_at n ∷ []))
      ∙ map-append said (map tells_it (map told_at places)) (Tells (told_at n) ∷ []))

  tells_history : TellHistory h.events told
  tells_history = record {
    one_each = told_size;
    each = λ e d lt. subst (TellsOf h.events e) (sym (told_is e d lt)) (record { word = refl; reading = refl; has_reading = refl; stamp = refl; has_stamp = refl; node = refl; message = refl; from = refl; carried = refl; seq = refl; label = refl });
  }

  nodes_below : All (IsDecimalBelow MAX_NODES) (map (λ (e : NamedEvent). e.node) told)
  nodes_below k d lt =
      let size = length-map told (λ (e : NamedEvent). e.node) in
      let within : k < length h.events = omega (arith, told_size) in
      let is = get_or-map (λ (e : NamedEvent). e.node) told k (told_at 0) d (omega arith) ∙ ap (λ (e : NamedEvent). e.node) (told_is k (told_at 0) within) in (
        (event_at h.events k).node,
        (let a = (clocked.well_formed.each k within).node in let b = clocked.well_formed.few_nodes in omega arith),
        is,
      )

  few_told : length (node_names (events_in (map tells_it told))) ≤ MAX_LOG_NODES
  few_told =
      let few : length (node_names (events_in (map tells_it told))) ≤ MAX_NODES =
      subst (λ (events : List NamedEvent). length (node_names events) ≤ MAX_NODES) (sym (events_told told))
      (few_names MAX_NODES (map (λ (e : NamedEvent). e.node) told) (omega arith) nodes_below) in
      omega (arith, few)

  say_items : SayItems (exact_rules form.Pair) (log_rows h.events) (map tells_it told)
  say_items = placed_say (exact_rules form.Pair) [] (log_rows h.events) (map tells_it told) refl refl (rows_tell (length h.events) (omega arith))

  makes_items : MakeItems (exact_rules form.Pair) (log_rows h.events) (map tells_it told)
  makes_items = (say_items, few_told)

  -- whoever reads the log has what the history's events tell
  items_read : (text : ReadText) → (read : IsLogRead h text) → read.items ≡ map tells_it told
  items_read text read =
      let rows : read.records ≡ log_rows h.events = (logs_read_back h.events).1 read.records read.all in
      said_once (exact_rules form.Pair) [] (log_rows h.events) read.items (map tells_it told) refl
      (subst (λ (records : List Fields). SayItems (exact_rules form.Pair) records read.items) rows read.make) say_items

  pub log_is_read : (text : ReadText) → IsLogRead h text → IsHistoryLog h.events text.log.events
  log_is_read text read =
      let same = items_read text read in
      let is_log : IsLogOf told text =
      subst (λ (events : List NamedEvent). IsLogOf events text) (ap events_in same ∙ events_told told) read.held.log in
      is_history_log h clocked.well_formed told text is_log tells_history

  nothing_is_asked : (text : ReadText) → IsLogRead h text → text.details.questions ≡ []
  nothing_is_asked text read =
      none_mapped plain_asked text.details.questions (read.held.questions ∙ ap questions_in (items_read text read) ∙ nothing_asked told)

  nothing_is_skipped : (text : ReadText) → IsLogRead h text → text.details.skipped ≡ None
  nothing_is_skipped text read =
      let lines = told_lines (log_text h.events) in
      read.skipped ∙ ap (λ (items : List LogItem). skipped_in items lines) (items_read text read) ∙ ap skipped_on (nothing_skipped told lines)

  nothing_is_left_out : (text : ReadText) → IsLogRead h text → text.details.left_out ≡ []
  nothing_is_left_out text read =
      none_mapped (λ (b : BadLine). b.why) text.details.left_out (read.held.left_out ∙ ap reasons_in (items_read text read) ∙ nothing_bad told)

pub rows_make_events : RowsMakeEvents
rows_make_events h clocked = (told h clocked, makes_items h clocked, tells_history h clocked)

pub logs_have_an_order : LogsHaveAnOrder
logs_have_an_order h text clocked read =
    let few = clocked.well_formed.within_capacity in
    let small = clocked.well_formed.small_capacity in
    log_in_own_order h.events text.log.events (length text.details.nodes) read.held.log.few_nodes (read_names (events_in read.items) text read.held.log)
    (log_is_read h clocked text read) (omega arith) clocked.readings

pub logs_tell_events_alone : LogsTellEventsAlone
logs_tell_events_alone h text clocked read =
    let is = log_is_read h clocked text read in
    (is.size, nothing_is_asked h clocked text read, nothing_is_skipped h clocked text read, nothing_is_left_out h clocked text read)

pub logs_tell_readings : LogsTellReadings
logs_tell_readings h text e clocked read lt =
    let is = log_is_read h clocked text read in
    is.has_reading e (let same = is.size in omega arith)

pub logs_tell_stamps : LogsTellStamps
logs_tell_stamps h text e clocked read lt =
    let is = log_is_read h clocked text read in
    is.has_stamp e (let same = is.size in omega arith)

pub logs_tell_nothing_carried : LogsTellNothingCarried
logs_tell_nothing_carried h text e clocked read lt =
    let is = log_is_read h clocked text read in
    is.carried e (let same = is.size in omega arith)

pub logs_tell_no_seqs : LogsTellNoSeqs
logs_tell_no_seqs h text e clocked read lt =
    let is = log_is_read h clocked text read in
    is.seq e (let same = is.size in omega arith)

pub logs_audit_clean : LogsAuditClean
logs_audit_clean h text log clocked read ticks same in_order =
    in_order_is_clean h.events log (subst (IsHistoryLog h.events) (sym same) (log_is_read h clocked text read)) clocked.least ticks in_order
