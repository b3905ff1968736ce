use Rattle.std.proofs.Common.{◌≡◌, ◌++◌, map, take}
use Rattle.csv.specs.Writing.{fields_text}
use Rattle.hlc_csv.specs.Rows.{row_field_bytes, row_setup}
use Rattle.hlc_csv.proofs.row_buffer.put_rest.Given as goal

abbrev pub invariant-loop-field : goal.invariant-loop-field
invariant-loop-field l = l.text.items ≡ l.fn.text.items ++ fields_text row_setup (map row_field_bytes (take l.field-index l.fields))
