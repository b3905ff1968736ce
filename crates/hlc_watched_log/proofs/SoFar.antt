-- A log that is watched, as far as its records have come.
use Rattle.std.proofs.Common.{◌≡◌, ◌∙◌, ◌+◌, ◌≤◌, Bool, true, false, ℕ, List, [], ◌∷◌, ◌++◌, Option, Some, None, ap, arith, cond, inl, inr, length, refl, subst, sym}
use Rattle.std.specs.Prelude.{is_some, slice_index_or}
use Rattle.std.proofs.lemmas.List.{length-set, map-append}
use Rattle.std.specs.Io.KnownBytes.{Appends}
use Rattle.hlc_csv.specs.RecordReader.{AreAll, AreAllOpen, AreFirst, HasReadTo, ReadsOne}
use Rattle.hlc_csv.specs.Rows.{Fields, text_of}
use Rattle.hlc_csv.specs.declared.record_reader.RecordReader.{RecordReader}
use Rattle.hlc_log_text.specs.FaultRule.{leaves_out}
use Rattle.hlc_log_text.specs.FileMarks.{begun_file}
use Rattle.hlc_log_text.specs.LogHeader.{said_item}
use Rattle.hlc_log_text.specs.NamedEvent.{NamedEvent}
use Rattle.hlc_log_text.specs.declared.bad_log.BadLog.{BadLog}
use Rattle.hlc_log_text.specs.declared.bad_log.BadLog.TheVariants as bad
use Rattle.hlc_log_text.specs.declared.fault_rule.FaultRule.{FaultRule}
use Rattle.hlc_log_text.specs.declared.log_header.LogHeader.{LogHeader}
use Rattle.hlc_watched_log.specs.Answered.{Answers, AreHeadersAfter, IsAnswered}
use Rattle.hlc_watched_log.specs.Files.{KeptFiles, last_before, line_here, number_at}
use Rattle.hlc_watched_log.specs.Numbers.{name_number, with_number}
use Rattle.hlc_watched_log.specs.Taken.{IsWhole, ends_with}
use Rattle.hlc_watched_log.specs.Watched.{WatchedLog, bad_of, bad_row, log_by, no_events, on_line, rows_by, said_event, summary_rows}
use Rattle.hlc_watched_log.specs.Watching.{IsWatched, Placed, WatchState, at_first, bad_by_mark, bad_next, bad_row_after, ended_with, fields_in, lines_in, log_after, rows_by_mark, rows_next, rows_told, said_next, state_after, state_by_mark, state_next}
use Rattle.hlc_watched_log.specs.declared.outcome.WatchOutcome.TheVariants as outcome
use Rattle.hlc_watched_log.specs.declared.watch_rules.WatchRules.{WatchRules}
use Rattle.hlc_watched_log.proofs.Headers.{headers-length}
use Rattle.hlc_watched_log.proofs.NameNumbers.{with_number-bounds, with_number-together}
use Rattle.hlc_watched_log.proofs.Records.{rows_from-more, state_after-more}
use Rattle.hlc_watched_log.proofs.RowsAdded.{appends_joined, appends_none}

-- these records came, and were answered
pub record SoFar {R : Type 0} (rules : WatchRules) (rem : R → Option (List ℕ)) (initial input : RecordReader R) (headers : List LogHeader) (log : WatchedLog)
    (before now : Option (List ℕ)) (count : ℕ) : Type 0 where
  pub records : List Placed
  pub read : (bytes : Option (List ℕ)) → HasReadTo rem initial bytes [] [] → HasReadTo rem input bytes (fields_in records) (lines_in records)
  pub headers_are : AreHeadersAfter (state_after rules (at_first rules) records).items headers
  pub log_is : log ≡ log_after rules records
  pub written : Appends before now (text_of (rows_told rules records))
  pub whole : IsWhole log
  pub few : log.events ≤ count
  pub one_each : length headers ≡ length log.files.counted
  pub files : length log.files.counted ≤ count + 1

pub so_far-none : {R : Type 0} (rules : WatchRules) (rem : R → Option (List ℕ)) (initial : RecordReader R) (headers : List LogHeader) (log : WatchedLog)
    (before : Option (List ℕ)) → AreHeadersAfter ([] ∷ []) headers → length headers ≡ 1 → log ≡ no_events rules.keep → IsWhole log
    → SoFar rules rem initial initial headers log before before 0
so_far-none rules rem initial headers log before begun one is whole = record {
  records = [];
  read = λ bytes h. h;
  headers_are = begun;
  log_is = is;
  written = appends_none before;
  whole = whole;
  few = let none : log.events ≡ 0 = ap (λ (log : WatchedLog). log.events) is in omega arith;
  one_each = let first : length log.files.counted ≡ 1 = ap (λ (log : WatchedLog). length log.files.counted) is in omega arith;
  files = let first : length log.files.counted ≡ 1 = ap (λ (log : WatchedLog). length log.files.counted) is in omega arith;
}

-- one record begins one file at most, and each file has its items
files-kept : (rules : WatchRules) (log : WatchedLog) (why : Option BadLog) (event : Option NamedEvent) → (log_by rules log why event).files ≡ log.files
files-kept rules log (Some why) event = refl
files-kept rules log None None = refl
files-kept rules log None (Some named) = refl

module _ (rules : WatchRules) (state : WatchState) (next : Placed) (each : length state.items ≡ length state.log.files.counted) where
  abbrev IsOneMore : WatchState → Type 0
  IsOneMore after =
      (length after.items ≡ length after.log.files.counted) × (length after.log.files.counted ≤ length state.log.files.counted + 1)

  one_by_mark : (mark : Option (List ℕ)) → IsOneMore (state_by_mark rules state next mark)
  one_by_mark None =
      let said = said_next rules state next in
      let file = state.log.files.current in
      let items = length-set state.items file (slice_index_or state.items file [] ++ said_item said ∷ []) in
      let log = on_line state.log next.1 in
      let files = ap (λ (files : KeptFiles). length files.counted) (files-kept rules log (bad_of rules.records.form log.names.nodes said) (said_event said)) in
      (items ∙ each ∙ sym files, omega (arith, files))
  one_by_mark (Some name) =
      let file = name_number state.log.names.files name + 1 in
      let old = state.log.files in
      let together = with_number-together [] 0 state.items old.counted file each in
      let set = length-set (with_number 0 old.counted file) old.current (number_at old (last_before old next.1)) in
      let bounds = with_number-bounds 0 old.counted file in
      (together ∙ sym set, omega (arith, set, bounds.1))

  one_file_more : IsOneMore (state_next rules state next)
  one_file_more = one_by_mark (begun_file next.0)

-- the fields and the lines with one record more
fields-more : (records : List Placed) (next : Placed) → fields_in (records ++ next ∷ []) ≡ fields_in records ++ next.0 ∷ []
fields-more records next = map-append (λ (next : Placed). next.0) records (next ∷ [])

lines-more : (records : List Placed) (next : Placed) → lines_in (records ++ next ∷ []) ≡ lines_in records ++ next.1 ∷ []
lines-more records next = map-append (λ (next : Placed). next.1) records (next ∷ [])

-- what holds of them holds of these
of_more : (P : List Fields → List ℕ → Type 0) (records : List Placed) (next : Placed) → P (fields_in records ++ next.0 ∷ []) (lines_in records ++ next.1 ∷ [])
    → P (fields_in (records ++ next ∷ [])) (lines_in (records ++ next ∷ []))
of_more P records next h =
    subst (λ (all : List Fields). P all (lines_in (records ++ next ∷ []))) (sym (fields-more records next))
    (subst (λ (all : List ℕ). P (fields_in records ++ next.0 ∷ []) all) (sym (lines-more records next)) h)

-- a record that ends the watch is bad, and isn't left out
ends_some : (faults : FaultRule) (found : Option BadLog) (why : BadLog) → ends_with faults found ≡ Some why
    → (found ≡ Some why) × (leaves_out faults why ≡ false)
ends_some faults None why is = absurd (cc)
ends_some faults (Some reason) why is = by_test (leaves_out faults reason) refl is where
  by_test : (test : Bool) → leaves_out faults reason ≡ test → cond test None (Some reason) ≡ Some why
      → ((let o : Option BadLog = Some reason in o) ≡ Some why) × (leaves_out faults why ≡ false)
  by_test true at is = absurd (cc)
  by_test false at is =
      let same : reason ≡ why = cc in
      (is, subst (λ (r : BadLog). leaves_out faults r ≡ false) same at)

module _ {R : Type 0} (rules : WatchRules) (rem : R → Option (List ℕ)) (initial input : RecordReader R) (headers : List LogHeader) (log : WatchedLog)
    (before now : Option (List ℕ)) (count : ℕ) (h : SoFar rules rem initial input headers log before now count) where
  abbrev state : WatchState
  state = state_after rules (at_first rules) h.records

  -- a reader that reads one record more
  abbrev pub Reads : (new : RecordReader R) → Fields → (line : ℕ) → (is_open : Bool) → Type 0
  Reads new fields line is_open =
      (bytes : Option (List ℕ)) (records : List Fields) (lines : List ℕ) → HasReadTo rem input bytes records lines
      → ReadsOne rem new bytes (records ++ fields ∷ []) (lines ++ line ∷ []) is_open

  module _ (new : RecordReader R) (fields : Fields) (line : ℕ) (reads : Reads new fields line false) (later : Option (List ℕ))
      (new_headers : List LogHeader) (new_log : WatchedLog) (ends : Option BadLog)
      (answers : Answers rules headers log (fields, line) now later new_headers new_log ends) where
    abbrev next : Placed
    next = (fields, line)

    answered : IsAnswered rules state next now later new_headers new_log ends
    answered =
        subst (λ (l : WatchedLog). IsAnswered rules (record { items = state.items; log = l }) next now later new_headers new_log ends) h.log_is
        (answers state.items h.headers_are)

    -- there is one for each file
    each_item : length state.items ≡ length state.log.files.counted
    each_item = headers-length state.items headers h.headers_are ∙ h.one_each ∙ ap (λ (l : WatchedLog). length l.files.counted) h.log_is

    new_files : length new_log.files.counted ≡ length (state_next rules state next).log.files.counted
    new_files = ap (λ (l : WatchedLog). length l.files.counted) answered.log_is

    pub so_far-more : IsWhole new_log → new_log.events ≤ log.events + 1 → SoFar rules rem initial new new_headers new_log before later (count + 1)
    so_far-more whole counted = record {
      records = h.records ++ next ∷ [];
      read = λ bytes start. of_more (HasReadTo rem new bytes) h.records next (reads bytes (fields_in h.records) (lines_in h.records) (h.read bytes start)).0;
      headers_are =
          subst (λ (s : WatchState). AreHeadersAfter s.items new_headers) (sym (state_after-more rules (at_first rules) h.records next)) answered.headers_are;
      log_is = answered.log_is ∙ ap (λ (s : WatchState). s.log) (sym (state_after-more rules (at_first rules) h.records next));
      written =
          subst (λ (rows : List Fields). Appends before later (text_of rows)) (sym (rows_from-more rules (at_first rules) h.records next))
          (appends_joined before now later (rows_told rules h.records) (rows_next rules state next) h.written answered.written);
      whole = whole;
      few = let was = h.few in omega arith;
      one_each =
          sym (headers-length (state_next rules state next).items new_headers answered.headers_are) ∙ (one_file_more rules state next each_item).0 ∙ sym new_files;
      files =
          let was = h.files in
          let same = ap (λ (l : WatchedLog). length l.files.counted) h.log_is in
          let more = (one_file_more rules state next each_item).1 in
          let now = new_files in
          omega arith;
    }

    -- a bad record ends the watch
    bad_rows : (why : BadLog) (mark : Option (List ℕ)) → bad_by_mark rules state next mark ≡ Some why
        → rows_by_mark rules state next mark ≡ bad_row_after rules h.records line why ∷ []
    bad_rows why None is = ap (λ (o : Option BadLog). rows_by rules (on_line state.log line) o (said_event (said_next rules state next))) is
    bad_rows why (Some name) is = absurd (cc)

    watched_to_bad : (why : BadLog) → ends ≡ Some why → (bytes : Option (List ℕ)) → HasReadTo rem initial bytes [] []
        → IsWatched rules bytes before later outcome.BadLog
    watched_to_bad why is bytes start =
        let found = ends_some rules.records.faults (bad_next rules state next) why (sym answered.ends_is ∙ is) in
        inr (record {
          records = h.records;
          next = next;
          why = why;
          ends = inl (
            of_more (AreFirst bytes) h.records next (reads bytes (fields_in h.records) (lines_in h.records) (h.read bytes start)).1,
            found.0,
            found.1,
          );
          written =
              appends_joined before now later (rows_told rules h.records) (bad_row_after rules h.records line why ∷ []) h.written
              (subst (λ (rows : List Fields). Appends now later (text_of rows)) (bad_rows why (begun_file fields) found.0) answered.written);
          outcome = refl;
        })

    some_end : (found : Option BadLog) → is_some found ≡ true → (why : BadLog) × (found ≡ Some why)
    some_end None is = absurd (cc)
    some_end (Some why) is = (why, refl)

    pub watched_to_end : is_some ends ≡ true → (bytes : Option (List ℕ)) → HasReadTo rem initial bytes [] [] → IsWatched rules bytes before later outcome.BadLog
    watched_to_end is bytes start = let some = some_end ends is in watched_to_bad some.0 some.1 bytes start

  -- so does one that is open
  abbrev pub open_row : (line : ℕ) → WatchedLog → Fields
  open_row line l = bad_row (on_line l line).names.files (line_here (on_line l line).files) bad.Quote

  pub watched_to_open : (new : RecordReader R) (fields : Fields) (line : ℕ) → Reads new fields line true → (later : Option (List ℕ))
      → Appends now later (text_of (open_row line log ∷ [])) → (bytes : Option (List ℕ)) → HasReadTo rem initial bytes [] []
      → IsWatched rules bytes before later outcome.BadLog
  watched_to_open new fields line reads later written bytes start = inr (record {
    records = h.records;
    next = (fields, line);
    why = bad.Quote;
    ends = inr (of_more (AreAllOpen bytes) h.records (fields, line) (reads bytes (fields_in h.records) (lines_in h.records) (h.read bytes start)), refl);
    written =
        appends_joined before now later (rows_told rules h.records) (bad_row_after rules h.records line bad.Quote ∷ []) h.written
        (subst (λ (l : WatchedLog). Appends now later (text_of (open_row line l ∷ []))) h.log_is written);
    outcome = refl;
  })

  -- and the end of the log
  pub watched_whole : ((bytes : Option (List ℕ)) (records : List Fields) (lines : List ℕ) → HasReadTo rem input bytes records lines → AreAll bytes records lines)
      → (later : Option (List ℕ)) → Appends now later (text_of (summary_rows log)) → (bytes : Option (List ℕ)) → HasReadTo rem initial bytes [] []
      → IsWatched rules bytes before later (ended_with log)
  watched_whole reads later written bytes start = inl (record {
    records = h.records;
    all = reads bytes (fields_in h.records) (lines_in h.records) (h.read bytes start);
    written =
        appends_joined before now later (rows_told rules h.records) (summary_rows (log_after rules h.records)) h.written
        (subst (λ (l : WatchedLog). Appends now later (text_of (summary_rows l))) h.log_is written);
    outcome = ap ended_with h.log_is;
  })
