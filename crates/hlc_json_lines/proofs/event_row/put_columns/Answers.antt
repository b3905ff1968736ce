use Rattle.std.proofs.Common.{◌∙◌, ◌<◌, length, sym, append-nil, arith}
use Rattle.csv.specs.Writing.{fields_text}
use Rattle.serde_json.specs.View.{view}
use Rattle.hlc_csv.proofs.RowTextFacts.{fields_text-next}
use Rattle.hlc_json_lines.specs.EventRow.{column_field, event_columns}
use Rattle.hlc_json_lines.proofs.event_row.put_columns.Goals as goal

pub loop-column-init : goal.loop-column-init
unfolding fields_text
loop-column-init c = sym (append-nil c.args.row.now.items)

pub loop-column-preserved : goal.loop-column-preserved
loop-column-preserved c =
    let at = c.loop-column.column-index in
    let within : at < length event_columns = omega arith in
    let added = c.in_ok-put_column.ensures in
    rw c.loop-column.invariant at added ∙ fields_text-next c.args.row.now.items (column_field c.args.event.rules.now c.args.event.word (view c.args.event.value.now)) event_columns at _ within
