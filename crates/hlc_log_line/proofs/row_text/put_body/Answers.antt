use Rattle.std.proofs.Common.{◌≤◌, [], ℕ, List, Bor, length, get_or, ap, length-append, arith}
use Rattle.csv.specs.Writing.{field_text, fields_text}
use Rattle.hlc_csv.specs.Rows.{row_setup}
use Rattle.hlc_log_line.proofs.RoomFacts.{put-both}
use Rattle.hlc_log_line.proofs.RowFacts.{body-parts, bytes_of, others}
use Rattle.hlc_log_line.proofs.row_text.put_body.Goals as goal

pub returns-in-len1-up : goal.returns-in-len1-up
returns-in-len1-up c =
    let fields = c.args.fields.now in
    let d : Bor (List ℕ) = record { ref_ptr = (0, 0); now = [] } in
    let first = field_text row_setup (get_or fields 0 d).now in
    let rest = fields_text row_setup (bytes_of (others fields)) in
    let parts = body-parts fields d (omega (arith, c.in-len1-up.len_at_least)) in
    let inside : c.put_rest.result ≤ length c.args.room.now =
    omega (arith, c.put_field-end.ensures.ends, c.put_rest.ensures.ends, c.requires, ap length parts, length-append first rest) in
    rw parts
    (put-both c.args.room.now c.put_field-end.new.room c.put_rest.new.room first rest 0 c.put_field-end.result c.put_rest.result
    c.put_field-end.ensures c.put_rest.ensures inside)
