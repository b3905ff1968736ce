use Rattle.std.proofs.Common.{◌∙◌, ◌-◌, ◌≤◌, ◌<◌, ◌++◌, ap, arith, drop, flat_map, length, sym, take, take_all}
use Rattle.std.proofs.lemmas.List.{flat_map_more, length-drop}
use Rattle.csv.specs.Records.{fields_of}
use Rattle.hlc_csv.specs.Rows.{Fields, field_of}
use Rattle.hlc_audit_forms.specs.TextPiece.{spaced}
use Rattle.hlc_audit_forms.proofs.Lists.{fields-more}
use Rattle.hlc_audit_forms.proofs.plain.put_rest.Goals as goal

pub loop-place-preserved : goal.loop-place-preserved
loop-place-preserved c =
    let fields = fields_of c.args.row.now in
    let start = c.args.start in
    let at = c.loop-place.place in
    let from : start ≤ at = omega arith in
    let within : at < length fields = omega arith in
    let old = c.args.text.now.items in
    rw (c.field.ensures, c.loop-place.invariant) at c.in_ok-put_spaced.ensures
    ∙ flat_map_more spaced old (take (at - start) (drop start fields)) (field_of fields at)
    ∙ ap (λ (rest : Fields). old ++ flat_map spaced rest) (sym (fields-more fields start at from within))

pub returns : goal.returns
returns c =
    let fields = fields_of c.args.row.now in
    let start = c.args.start in
    let at = c.loop-place.place in
    let beyond : length (drop start fields) ≤ at - start = simp length-drop (omega arith) in
    rw (take_all (at - start) (drop start fields) beyond) at c.loop-place.invariant
