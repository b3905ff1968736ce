use Rattle.std.proofs.Common.{◌<◌, arith, length, take}
use Rattle.csv.specs.Records.{fields_of}
use Rattle.hlc_audit_forms.specs.JsonRows.{column_members}
use Rattle.hlc_audit_forms.proofs.CommaLists.{is_first_member, item-written, members-more}
use Rattle.hlc_audit_forms.proofs.json_rows.put_columns.Goals as goal

pub loop-place-preserved : goal.loop-place-preserved
loop-place-preserved c =
    let columns = c.args.columns.now in
    let fields = fields_of c.args.row.now in
    let at = c.loop-place.place in
    let within : at < length columns = omega arith in
    item-written c.args.text.now.items c.loop-place.text.items c.put_comma.new.text.items c.put_member.new.text.items
    (column_members 0 (take at columns) fields) _ _ _ c.loop-place.invariant c.in_ok-put_comma.ensures (rw c.field.ensures at c.in_ok-put_member.ensures)
    (is_first_member columns fields at within) (members-more columns fields at _ within)
