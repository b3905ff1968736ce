-- What isn't told has no rows.
use Rattle.std.proofs.Common.{◌≡◌, ◌∙◌, ℕ, Bool, true, false, ◌||◌, List, [], ◌∷◌, ◌++◌, Option, Some, None, ap, codes, refl}
use Rattle.std.specs.List.{flat_map, list_any}
use Rattle.std.specs.Prelude.{is_some}
use Rattle.hlc_csv.specs.Rows.{Fields}
use Rattle.hlc_log.specs.declared.log_event.LogEvent.{LogEvent}
use Rattle.hlc_log_text.specs.StampForms.{greatest_c}
use Rattle.hlc_stamp.specs.Order.{Pair}
use Rattle.hlc_watch.specs.Records.{line_causes}
use Rattle.hlc_watch.specs.declared.file_line.FileLine.{FileLine}
use Rattle.hlc_watch.specs.declared.records.Records.{Records}
use Rattle.hlc_watched_log.specs.CauseRows.{ahead_row, behind_row, cause_rows, has_cause, line_row, row_if, row_of, wrong_line}
use Rattle.hlc_watched_log.specs.Summary.{claimed_ahead}
use Rattle.hlc_watched_log.specs.Watched.{event_rows, is_over, is_told, over_row}
use Rattle.hlc_watched_log.specs.declared.log_names.LogNames.{LogNames}
use Rattle.hlc_watched_log.specs.declared.watch_rules.WatchRules.{WatchRules}

module _ (names : LogNames) (records : Records) where
  -- where no rule is broken there is no row of one
  no_row : (behind : Bool) (previous send : Option FileLine) (ahead : Option Pair) (wrong : Option FileLine)
      → ((behind || (is_some previous || (is_some send || is_some wrong))) || is_some ahead) ≡ false
      → row_if behind (behind_row names records)
      ++ (row_of (line_row names records (codes "not-above")) previous
      ++ (row_of (line_row names records (codes "not-above")) send
      ++ (row_of (ahead_row names records) ahead ++ row_of (line_row names records (codes "carried")) wrong))) ≡ []
  no_row false None None None None is = refl
  no_row false None None None (Some w) is = cc
  no_row false None None (Some a) None is = cc
  no_row false None None (Some a) (Some w) is = cc
  no_row false None (Some s) ahead wrong is = cc
  no_row false (Some p) send ahead wrong is = cc
  no_row true previous send ahead wrong is = cc

  no_cause_row : (full : ℕ) → has_cause full records ≡ false → cause_rows names full records ≡ []
  no_cause_row full is =
      let causes = line_causes full records in
      no_row causes.behind causes.not_above_previous causes.not_above_send causes.ahead (wrong_line records) is

no_cause_rows : (names : LogNames) (full : ℕ) (all : List Records) → list_any (has_cause full) all ≡ false → flat_map (cause_rows names full) all ≡ []
no_cause_rows names full [] is = refl
no_cause_rows names full (records ∷ all) is =
    by (has_cause full records) (list_any (has_cause full) all) refl refl is (no_cause_rows names full all) where
      by : (this others : Bool) → has_cause full records ≡ this → list_any (has_cause full) all ≡ others → (this || others) ≡ false
          → (list_any (has_cause full) all ≡ false → flat_map (cause_rows names full) all ≡ []) → flat_map (cause_rows names full) (records ∷ all) ≡ []
      by true others here there is rest = cc
      by false true here there is rest = cc
      by false false here there is rest =
          ap (λ (first : List Fields). first ++ flat_map (cause_rows names full) all) (no_cause_row names records full here) ∙ rest there

-- an event of which nothing is told has no rows
pub no_event_rows : (rules : WatchRules) (names : LogNames) (complete : List Records) (line : FileLine) (event : LogEvent)
    → is_told rules complete event ≡ false → event_rows rules names complete line event ≡ []
no_event_rows rules names complete line event is =
    by (list_any (has_cause full) complete) (is_over rules.limit (claimed_ahead event)) refl is where
      full : ℕ
      full = greatest_c rules.records.form

      row : Fields
      row = over_row names line event

      by : (causes over : Bool) → list_any (has_cause full) complete ≡ causes → (causes || over) ≡ false
          → flat_map (cause_rows names full) complete ++ row_if over row ≡ []
      by true over here is = cc
      by false true here is = cc
      by false false here is = ap (λ (first : List Fields). first ++ []) (no_cause_rows names full complete here)
