use Rattle.std.proofs.Common.{◌≡◌, ◌++◌, filter, map, take}
use Rattle.csv.specs.Records.{fields_of}
use Rattle.hlc_audit_forms.specs.AuditText.{below_title, is_row_of}
use Rattle.hlc_audit_forms.proofs.Lists.{has_none}
use Rattle.hlc_audit_forms.proofs.audit_text.put_section.Given as goal

-- the rows so far are told, and whether there are some
abbrev pub invariant-loop-row : goal.invariant-loop-row
invariant-loop-row l =
    let told = filter (is_row_of l.section) (map fields_of (take l.row-index l.rows)) in
    (l.text.items ≡ l.fn.text.items ++ below_title l.section told) × (l.is_first ≡ has_none told)
