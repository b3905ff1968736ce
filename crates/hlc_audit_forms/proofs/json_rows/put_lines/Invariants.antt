use Rattle.std.proofs.Common.{◌≡◌, ◌-◌, ◌++◌, drop, map, take}
use Rattle.std.specs.List.{join_with_byte}
use Rattle.csv.specs.Records.{fields_of}
use Rattle.hlc_audit_forms.specs.JsonText.{json_string}
use Rattle.hlc_audit_forms.proofs.json_rows.put_lines.Given as goal

abbrev pub invariant-loop-place : goal.invariant-loop-place
invariant-loop-place l =
    l.text.items ≡ l.fn.text.items ++ join_with_byte 44 (map json_string (take (l.place - l.fn.start) (drop l.fn.start (fields_of l.row))))
