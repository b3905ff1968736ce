use Rattle.std.proofs.Common.{map, take}
use Rattle.csv.specs.Writing.{fields_text}
use Rattle.hlc_csv.specs.Rows.{row_setup}
use Rattle.hlc_log_line.specs.Room.{IsPut}
use Rattle.hlc_log_line.proofs.row_text.put_rest.Given as goal

abbrev pub invariant-loop-field : goal.invariant-loop-field
invariant-loop-field l = IsPut l.fn.room l.room l.at (fields_text row_setup (map (λ field. field.now) (take l.field-index l.fields))) l.end
