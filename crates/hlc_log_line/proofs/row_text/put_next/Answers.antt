use Rattle.std.proofs.Common.{◌≤◌, [], ◌∷◌, length, arith}
use Rattle.csv.specs.Writing.{field_text}
use Rattle.hlc_csv.specs.Rows.{row_setup}
use Rattle.hlc_log_line.proofs.RoomFacts.{put-both}
use Rattle.hlc_log_line.proofs.row_text.put_next.Goals as goal

pub returns : goal.returns
returns c =
    let inside : c.put_field.result ≤ length c.args.room.now = omega (arith, c.put-begins.ensures.ends, c.put_field.ensures.ends, c.requires) in
    put-both c.args.room.now c.put-begins.new.room c.put_field.new.room (44 ∷ []) (field_text row_setup c.args.field.now) c.args.at
    c.put-begins.result c.put_field.result c.put-begins.ensures c.put_field.ensures inside
