use Rattle.std.proofs.Common.{◌≡◌, ◌∙◌, ◌+◌, ◌≤◌, ◌<◌, [], ◌∷◌, ◌++◌, ℕ, List, Bor, length, refl, sym, ap, length-append, arith}
use Rattle.csv.specs.Writing.{row_body}
use Rattle.hlc_csv.specs.Rows.{row_setup, text_of_row}
use Rattle.hlc_log_line.specs.Room.{IsPut}
use Rattle.hlc_log_line.proofs.RoomFacts.{put-both, put-written}
use Rattle.hlc_log_line.proofs.RowFacts.{bytes_of, text-several}
use Rattle.hlc_log_line.proofs.row_text.write_row.Goals as goal

-- how long the row of several fields is
length-several : (fields : List (Bor (List ℕ))) → 2 ≤ length fields → length (text_of_row (bytes_of fields)) ≡ length (row_body row_setup (bytes_of fields)) + 1
length-several fields several = ap length (text-several fields several) ∙ length-append (row_body row_setup (bytes_of fields)) (10 ∷ [])

pub returns-then-length-room : goal.returns-then-length-room
returns-then-length-room c =
    let fields = c.args.fields.now in
    let size = length-several fields c.requires.several in
    let body = row_body row_setup (bytes_of fields) in
    let room = c.args.room.now in
    let inside : c.put.result ≤ length room = omega (arith, c.put.ensures.ends, c.put_body-end.ensures.ends, c.body_length-length.ensures.length, c.if-length-room.true) in
    let both = put-both room c.put_body-end.new.room c.put.new.room body (10 ∷ []) 0 c.put_body-end.result c.put.result c.put_body-end.ensures c.put.ensures inside in
    let whole : IsPut room c.put.new.room 0 (text_of_row (bytes_of fields)) c.put.result = rw (text-several fields c.requires.several) both in
    record {
      size = omega (arith, c.body_length-length.ensures.length, size);
      written = λ _. put-written room c.put.new.room (text_of_row (bytes_of fields)) c.put.result whole;
      unchanged = λ small. absurd (omega (arith, small, size, c.body_length-length.ensures.length, c.if-length-room.true));
    }

pub returns-else-length-room : goal.returns-else-length-room
returns-else-length-room c =
    let size = length-several c.args.fields.now c.requires.several in
    record {
      size = omega (arith, c.body_length-length.ensures.length, size);
      written = λ fits. absurd (omega (arith, fits, size, c.body_length-length.ensures.length, c.if-length-room.false));
      unchanged = λ _. refl;
    }
