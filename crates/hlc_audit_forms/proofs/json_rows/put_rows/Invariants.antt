use Rattle.std.proofs.Common.{◌≡◌, ◌++◌, filter, map, take}
use Rattle.std.specs.List.{join_with_byte}
use Rattle.csv.specs.Records.{fields_of}
use Rattle.hlc_audit_forms.specs.JsonRows.{is_row_of, row_object}
use Rattle.hlc_audit_forms.proofs.Lists.{has_none}
use Rattle.hlc_audit_forms.proofs.json_rows.put_rows.Given as goal

-- the rows so far are told, and whether there are some
abbrev pub invariant-loop-row : goal.invariant-loop-row
invariant-loop-row l =
    let told = map row_object (filter (is_row_of l.member) (map fields_of (take l.row-index l.rows))) in
    (l.text.items ≡ l.fn.text.items ++ join_with_byte 44 told) × (l.is_first ≡ has_none told)
