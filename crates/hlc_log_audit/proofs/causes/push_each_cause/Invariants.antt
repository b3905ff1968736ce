use Rattle.std.proofs.Common.{List}
use Rattle.std.specs.List.{flat_map}
use Rattle.hlc_causality.specs.Places.{places_below}
use Rattle.hlc_causes.specs.declared.answers.Causes.{Causes}
use Rattle.hlc_csv.specs.Rows.{AddsText, text_of}
use Rattle.hlc_ordered_log.specs.Found.{AreCausesBefore}
use Rattle.hlc_log_audit.proofs.CauseRows.{row_at}
use Rattle.hlc_log_audit.proofs.causes.push_each_cause.Given as goal

-- the causes before the place have their rows
abbrev pub invariant-loop-place : goal.invariant-loop-place
invariant-loop-place g l =
    (causes : List Causes) × AreCausesBefore l.log l.full l.place causes
    × AddsText (g.W.Write.contents l.fn.writer) (g.W.Write.contents l.writer) l.fn.rows l.rows
    (text_of (flat_map (row_at l.log l.files l.nodes l.full causes) (places_below l.place)))
