use Rattle.std.proofs.Common.{◌≡◌, ◌++◌, map, take}
use Rattle.hlc_csv.specs.Rows.{row_field_bytes}
use Rattle.hlc_log_audit.proofs.lines.push_texts.Given as goal

-- the texts so far are among the fields
abbrev pub invariant-loop-text : goal.invariant-loop-text
invariant-loop-text l = map row_field_bytes l.fields.items ≡ map row_field_bytes l.fn.fields.items ++ take l.text-index l.texts
