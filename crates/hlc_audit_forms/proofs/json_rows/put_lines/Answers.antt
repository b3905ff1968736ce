use Rattle.std.proofs.Common.{◌-◌, ◌≤◌, ◌<◌, arith, drop, length, map, take}
use Rattle.std.proofs.lemmas.List.{length-drop, take_all}
use Rattle.csv.specs.Records.{fields_of}
use Rattle.hlc_audit_forms.specs.JsonText.{json_string}
use Rattle.hlc_audit_forms.proofs.CommaLists.{is_first_line, item-written, lines-more}
use Rattle.hlc_audit_forms.proofs.json_rows.put_lines.Goals as goal

pub loop-place-preserved : goal.loop-place-preserved
loop-place-preserved c =
    let fields = fields_of c.args.row.now in
    let start = c.args.start in
    let at = c.loop-place.place in
    let from : start ≤ at = omega arith in
    let within : at < length fields = omega arith in
    item-written c.args.text.now.items c.loop-place.text.items c.put_comma.new.text.items c.put_string.new.text.items
    (map json_string (take (at - start) (drop start fields))) _ _ _ c.loop-place.invariant c.in_ok-put_comma.ensures
    (rw c.field.ensures at c.in_ok-put_string.ensures) (is_first_line json_string fields start at from within) (lines-more json_string fields start at from within)

pub returns : goal.returns
returns c =
    let fields = fields_of c.args.row.now in
    let start = c.args.start in
    let at = c.loop-place.place in
    let beyond : length (drop start fields) ≤ at - start = simp length-drop (omega arith) in
    rw (take_all (at - start) (drop start fields) beyond) at c.loop-place.invariant
