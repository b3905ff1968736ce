use Rattle.std.proofs.Common.{◌≡◌, ◌++◌, take}
use Rattle.std.specs.List.{join_with_byte}
use Rattle.csv.specs.Records.{fields_of}
use Rattle.hlc_audit_forms.specs.JsonRows.{column_members}
use Rattle.hlc_audit_forms.proofs.json_rows.put_columns.Given as goal

abbrev pub invariant-loop-place : goal.invariant-loop-place
invariant-loop-place l = l.text.items ≡ l.fn.text.items ++ join_with_byte 44 (column_members 0 (take l.place l.columns) (fields_of l.row))
