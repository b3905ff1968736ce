use Rattle.std.proofs.Common.{◌≡◌, drop, map}
use Rattle.csv.specs.Records.{fields_of}
use Rattle.hlc_audit_forms.specs.Told.{node_row}
use Rattle.hlc_audit_forms.proofs.telling.node_row.Given as goal

-- the row is found among those that are left
abbrev pub invariant-loop-row : goal.invariant-loop-row
invariant-loop-row l = node_row (map fields_of (drop l.row-index l.rows)) l.name ≡ node_row (map fields_of l.rows) l.name
