use Rattle.std.proofs.Common.{◌≡◌, ◌++◌, take}
use Rattle.csv.specs.Writing.{fields_text}
use Rattle.serde_json.specs.View.{view}
use Rattle.hlc_csv.specs.Rows.{row_setup}
use Rattle.hlc_json_lines.specs.EventRow.{column_fields, event_columns}
use Rattle.hlc_json_lines.proofs.event_row.put_columns.Given as goal

abbrev pub invariant-loop-column : goal.invariant-loop-column
invariant-loop-column l =
    l.row.items ≡ l.fn.row.items ++ fields_text row_setup (column_fields l.event.rules.now l.event.word (view l.event.value.now) (take l.column-index event_columns))
