use Rattle.std.proofs.Common.{◌≡◌, ◌++◌, map, take}
use Rattle.std.specs.List.{join_with_byte}
use Rattle.csv.specs.Records.{fields_of}
use Rattle.hlc_audit_forms.specs.JsonRows.{rows_member}
use Rattle.hlc_audit_forms.specs.declared.json_member.TheConstants.{MEMBERS}
use Rattle.hlc_audit_forms.proofs.json_rows.put_members.Given as goal

abbrev pub invariant-loop-place : goal.invariant-loop-place
invariant-loop-place l = l.text.items ≡ l.fn.text.items ++ join_with_byte 44 (map (rows_member (map fields_of l.rows)) (take l.place MEMBERS))
