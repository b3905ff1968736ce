-- The rows of claims over a limit.
use Rattle.hlc_log_text.specs.declared.file_mark.FileMark.{FileMark}
use Rattle.hlc_log_text.specs.Files.{line_text}
use Rattle.hlc_log_audit.specs.Answers.{told_in}
use Rattle.std.proofs.Common.{◌≡◌, ◌∙◌, ℕ, ◌<◌, List, [], ◌∷◌, Option, Some, None, length, map, ap, refl, subst, sym}
use Rattle.std.specs.Prelude.{IfSome, codes, decimal, slice_index_or}
use Rattle.hlc_csv.specs.Rows.{Fields, field_of}
use Rattle.hlc_log.specs.Events.{event_at}
use Rattle.hlc_log.specs.CausalOrder.{place_at}
use Rattle.hlc_log.specs.declared.log_event.LogEvent.{LogEvent}
use Rattle.hlc_ordered_log.specs.InOrder.{IsInOrder, LogInOrder, claimed_of, line_in, skeleton_of}
use Rattle.hlc_log_text.specs.LogText.{name_of}
use Rattle.hlc_log_audit.specs.Answers.{claimed_fields, if_event}
use Rattle.hlc_log_audit.specs.ClaimedWay.{claimed_way}
use Rattle.hlc_log_text.specs.ReadText.{LinesRise}
use Rattle.hlc_log_audit.specs.Lines.{position_on}
use Rattle.hlc_log_audit.specs.OverLimit.{AreOvers, NamesOverBefore}
use Rattle.hlc_log_audit.specs.Report.{AreOverRows, NamesPlaces, origin_field, over_fields, over_row}
use Rattle.hlc_log_audit.specs.declared.over.Over.{Over}
use Rattle.hlc_log_audit.proofs.LineFacts.{position_of_found}
use Rattle.hlc_log_audit.proofs.OverLimits.{same_over}
use Rattle.hlc_log_audit.proofs.RowsOfPlaces.{flat_map-same}
use Rattle.hlc_log_audit.proofs.SameAnswers.{claimed_alike}

-- the places of an answer are those of events
pub names_places : (limit : ℕ) (log : LogInOrder) (node : ℕ) (o : Option Over) → NamesOverBefore limit log.events (length log.events) node o
    → IfSome o (NamesPlaces log)
names_places limit log node None is = tt
names_places limit log node (Some over) is = record { first = is.first.before; furthest = is.furthest.before }

-- the line where a claimed l came in is that of the first event of its way
pub origin_is : (files : List FileMark) (log : LogInOrder) (place k : ℕ) (e : ℕ) (rest : List ℕ) → IsInOrder log → LinesRise log.events → place < length log.events
    → k < length log.events → place_at log.order k ≡ place → claimed_way (skeleton_of log) (claimed_of log) k ≡ e ∷ rest
    → origin_field files log (event_at log.events place).line ≡ told_in files log e
origin_is files log place k e rest ordered rise exists within at way =
    let line = (event_at log.events place).line in
    let found : position_on log line ≡ Some k =
    position_of_found log ordered line place k rise (record { exists = exists; on_line = refl }) (record { exists = within; at_place = at }) in
    ap (λ (o : Option ℕ). field_of (if_event o (claimed_fields files log line)) 4) found
    ∙ ap (λ (events : List ℕ). field_of (map (line_text files) (map (line_in log) events)) 0) way

-- one log has the same rows in two causal orders
module _ (files : List FileMark) (nodes : List (List ℕ)) (log other : LogInOrder) (ordered : IsInOrder log) (other_ordered : IsInOrder other)
    (clocks : other.receives ≡ log.receives) (same : other.events ≡ log.events) (rise : LinesRise log.events) where
  same_origin : (line : ℕ) → origin_field files other line ≡ origin_field files log line
  same_origin line =
      ap (λ (fields : Fields). field_of fields 4) (claimed_alike log other ordered other_ordered clocks same rise files line)

  same_fields : (node : ℕ) (over : Over) → over_fields files nodes other node over ≡ over_fields files nodes log node over
  same_fields node over =
      ap (λ (events : List LogEvent). codes "over" ∷ name_of nodes node ∷ decimal over.claims ∷ line_text files (event_at events over.first.0).line
      ∷ decimal over.ahead ∷ origin_field files other (event_at events over.furthest.0).line ∷ []) same
      ∙ ap (λ (origin : List ℕ). codes "over" ∷ name_of nodes node ∷ decimal over.claims ∷ line_text files (event_at log.events over.first.0).line
      ∷ decimal over.ahead ∷ origin ∷ []) (same_origin (event_at log.events over.furthest.0).line)

  same_row : (node : ℕ) (o : Option Over) → over_row files nodes other node o ≡ over_row files nodes log node o
  same_row node None = refl
  same_row node (Some over) = ap (λ (row : Fields). row ∷ []) (same_fields node over)

  pub same_over_rows : (limit : Option ℕ) (rows others : List Fields) → AreOverRows files nodes log limit rows → AreOverRows files nodes other limit others
      → others ≡ rows
  same_over_rows None rows others is other_is = other_is ∙ sym is
  same_over_rows (Some limit) rows others (overs, are, is) (other_overs, other_are, other_is) =
      let there : AreOvers limit (length nodes) log.events other_overs = subst (λ (events : List LogEvent). AreOvers limit (length nodes) events other_overs) same other_are in
      other_is
      ∙ flat_map-same (λ (node : ℕ). over_row files nodes other node (slice_index_or other_overs node None))
      (λ (node : ℕ). over_row files nodes log node (slice_index_or overs node None)) (length nodes) (λ node lt.
      same_row node (slice_index_or other_overs node None)
      ∙ ap (over_row files nodes log node)
      (same_over limit log.events (length log.events) node (slice_index_or other_overs node None) (slice_index_or overs node None)
      (there.each node lt) (are.each node lt)))
      ∙ sym is
