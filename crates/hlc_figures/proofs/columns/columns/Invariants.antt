use Rattle.std.proofs.Common.{◌≡◌, ℕ, ◌+◌, ◌-◌, ◌*◌, ◌≤◌, length}
use Rattle.std.specs.Prelude.{slice_index_or}
use Rattle.hlc_figures.specs.Columns.{column_from, places_from}
use Rattle.hlc_figures.proofs.columns.columns.Given as goal

abbrev pub invariant-loop-column : goal.invariant-loop-column
invariant-loop-column g l = record {
  bounded : l.x ≤ l.start + l.column * 68719476736;
  at : l.x ≡ column_from (g.S.Subject.content l.subject) (places_from l.first (l.end - l.first)) l.start l.column;
  each_begins : length l.columns.items ≡ l.column + 1;
  begin : (k : ℕ) → k ≤ l.column →
      slice_index_or l.columns.items k 0 ≡ column_from (g.S.Subject.content l.subject) (places_from l.first (l.end - l.first)) l.start k;
}
