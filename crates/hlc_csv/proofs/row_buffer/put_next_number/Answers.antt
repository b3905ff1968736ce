use Rattle.std.proofs.Common.{◌∙◌, ◌-◌, ◌≤◌, ◌∷◌, length, take, decimal, ap, append-nil, take_all, arith}
use Rattle.hlc_csv.proofs.RowTextFacts.{field_text-decimal, on_ok-added}
use Rattle.hlc_csv.proofs.row_buffer.put_next_number.Goals as goal

pub returns : goal.returns
returns c =
    let n = c.args.number in
    let made = c.write_next-at.ensures in
    let text = 44 ∷ decimal n in
    let room = 21 - c.write_next-at.result in
    let all : length text ≤ room = omega (arith, made.begins) in
    let field = ap (take room) (made.written ∙ append-nil text) ∙ take_all room text all in
    rw (field_text-decimal n c.ranges.number.fits)
    (on_ok-added c.extend_from_slice.result c.args.text.now.items c.extend_from_slice.new.self.items _ text c.extend_from_slice.ensures.items field)
