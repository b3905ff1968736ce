use Rattle.std.proofs.Common.{◌≡◌, ◌*◌, ◌^◌, ◌≤◌, length, map, take}
use Rattle.csv.specs.Writing.{fields_text}
use Rattle.hlc_csv.specs.Rows.{row_setup}
use Rattle.hlc_log_line.proofs.row_text.rest_length.Given as goal

abbrev pub invariant-loop-field : goal.invariant-loop-field
invariant-loop-field l = record {
  so_far : l.length ≡ length (fields_text row_setup (map (λ field. field.now) (take l.field-index l.fields)));
  most : l.length ≤ l.field-index * 2 ^ 34;
}
