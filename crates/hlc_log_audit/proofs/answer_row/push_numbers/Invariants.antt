use Rattle.std.proofs.Common.{◌≡◌, ◌++◌, map, take}
use Rattle.std.specs.Prelude.{decimal}
use Rattle.hlc_csv.specs.Rows.{row_field_bytes}
use Rattle.hlc_log_audit.proofs.answer_row.push_numbers.Given as goal

-- the numbers so far are among the fields
abbrev pub invariant-loop-number : goal.invariant-loop-number
invariant-loop-number l = map row_field_bytes l.fields.items ≡ map row_field_bytes l.fn.fields.items ++ map decimal (take l.number-index l.numbers)
