use Rattle.std.proofs.Common.{◌≡◌, ◌<◌, ◌≤◌, ◌+◌, [], ◌∷◌, length, take, get_or, take_all, length-append, arith}
use Rattle.csv.specs.Writing.{escaped}
use Rattle.hlc_csv.specs.Rows.{row_setup}
use Rattle.hlc_log_line.proofs.RoomFacts.{put-both}
use Rattle.hlc_log_line.proofs.RowFacts.{escaped-next, length-escaped-next}
use Rattle.hlc_log_line.proofs.row_text.put_quoted.Goals as goal

pub loop-byte-init : goal.loop-byte-init
unfolding escaped
loop-byte-init c = c.put-end.ensures

pub put_escaped-end-requires : goal.put_escaped-end-requires
put_escaped-end-requires c =
    let field = c.args.field.now in
    let within : c.loop-byte.byte-index < length field = omega arith in
    let few = length-escaped-next field c.loop-byte.byte-index within in
    omega (arith, c.loop-byte.invariant.ends, few, c.loop-byte.auto.room, c.requires, length-append (escaped row_setup field) (34 ∷ []))

pub loop-byte-preserved : goal.loop-byte-preserved
loop-byte-preserved c =
    let field = c.args.field.now in
    let i = c.loop-byte.byte-index in
    let within : i < length field = omega arith in
    let few = length-escaped-next field i within in
    let made = c.put_escaped-end.ensures in
    let inside : c.put_escaped-end.result ≤ length c.args.room.now =
    omega (arith, c.loop-byte.invariant.ends, made.ends, few, c.requires, length-append (escaped row_setup field) (34 ∷ [])) in
    rw (escaped-next field i within)
    (put-both c.args.room.now c.loop-byte.room c.put_escaped-end.new.room (34 ∷ escaped row_setup (take i field))
    (escaped row_setup (get_or field i 0 ∷ [])) c.args.at c.loop-byte.end c.put_escaped-end.result c.loop-byte.invariant made inside)

pub returns : goal.returns
returns c =
    let field = c.args.field.now in
    let full : take c.loop-byte.byte-index field ≡ field = take_all c.loop-byte.byte-index field (omega arith) in
    let done = rw full at c.loop-byte.invariant in
    let inside : c.put.result ≤ length c.args.room.now =
    omega (arith, done.ends, c.put.ensures.ends, c.requires, length-append (escaped row_setup field) (34 ∷ [])) in
    put-both c.args.room.now c.loop-byte.room c.put.new.room (34 ∷ escaped row_setup field) (34 ∷ []) c.args.at c.loop-byte.end c.put.result done
    c.put.ensures inside
