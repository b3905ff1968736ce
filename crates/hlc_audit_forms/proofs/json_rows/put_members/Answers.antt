use Rattle.std.proofs.Common.{◌<◌, ◌≤◌, arith, length, map, take}
use Rattle.std.proofs.lemmas.List.{map_more, take_all}
use Rattle.csv.specs.Records.{fields_of}
use Rattle.hlc_audit_forms.specs.JsonRows.{members_text, rows_member}
use Rattle.hlc_audit_forms.specs.declared.json_member.TheConstants.{MEMBERS}
use Rattle.hlc_audit_forms.proofs.CommaLists.{is_first, item-written}
use Rattle.hlc_audit_forms.proofs.json_rows.put_members.Goals as goal

pub loop-place-preserved : goal.loop-place-preserved
loop-place-preserved c =
    let rows = map fields_of c.args.rows.now in
    let at = c.loop-place.place in
    let within : at < length MEMBERS = omega arith in
    item-written c.args.text.now.items c.loop-place.text.items c.put_comma.new.text.items c.put_rows_member.new.text.items
    (map (rows_member rows) (take at MEMBERS)) _ _ _ c.loop-place.invariant c.in_ok-put_comma.ensures c.in_ok-put_rows_member.ensures
    (is_first (rows_member rows) MEMBERS at within) (map_more (rows_member rows) MEMBERS at _ within)

pub returns : goal.returns
unfolding members_text
returns c =
    let at = c.loop-place.place in
    let beyond : length MEMBERS ≤ at = omega arith in
    rw (take_all at MEMBERS beyond) at c.loop-place.invariant
