use Rattle.std.proofs.Common.{◌≡◌, ◌<◌, ◌≤◌, [], ◌∷◌, ℕ, List, Bor, length, take, get_or, arith}
use Rattle.csv.specs.Writing.{field_text, fields_text}
use Rattle.hlc_csv.specs.Rows.{row_setup}
use Rattle.hlc_log_line.proofs.RoomFacts.{put-both, put-none}
use Rattle.hlc_log_line.proofs.RowFacts.{bytes_of, fields-next, length-fields-next}
use Rattle.hlc_log_line.proofs.row_text.put_rest.Goals as goal

pub loop-field-init : goal.loop-field-init
unfolding fields_text
loop-field-init c = put-none c.args.room.now c.args.at

pub put_next-end-requires : goal.put_next-end-requires
put_next-end-requires c =
    let fields = c.args.fields.now in
    let within : c.loop-field.field-index < length fields = omega arith in
    let d : Bor (List ℕ) = record { ref_ptr = (0, 0); now = [] } in
    let few = length-fields-next fields c.loop-field.field-index d within in
    omega (arith, c.loop-field.invariant.ends, few, c.loop-field.auto.room, c.requires)

pub loop-field-preserved : goal.loop-field-preserved
loop-field-preserved c =
    let fields = c.args.fields.now in
    let i = c.loop-field.field-index in
    let within : i < length fields = omega arith in
    let d : Bor (List ℕ) = record { ref_ptr = (0, 0); now = [] } in
    let few = length-fields-next fields i d within in
    let made = c.put_next-end.ensures in
    let inside : c.put_next-end.result ≤ length c.args.room.now = omega (arith, c.loop-field.invariant.ends, made.ends, few, c.requires) in
    rw (fields-next fields i d within)
    (put-both c.args.room.now c.loop-field.room c.put_next-end.new.room (fields_text row_setup (bytes_of (take i fields)))
    (44 ∷ field_text row_setup (get_or fields i d).now) c.args.at c.loop-field.end c.put_next-end.result c.loop-field.invariant made inside)
