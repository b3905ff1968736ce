use Rattle.std.proofs.Common.{◌∙◌, ◌-◌, ◌≤◌, ◌++◌, ◌∷◌, ℕ, List, length, take, decimal, ap, append-nil, length-append, take_all, arith}
use Rattle.csv.specs.Writing.{fields_text}
use Rattle.hlc_csv.proofs.RowTextFacts.{field_text-decimal, on_ok-added}
use Rattle.hlc_csv.proofs.row_buffer.put_three_numbers.Goals as goal

pub returns : goal.returns
unfolding fields_text
returns c =
    let one = 44 ∷ decimal c.args.first in
    let two = 44 ∷ decimal c.args.second in
    let three = 44 ∷ decimal c.args.third in
    let first = c.write_next-at_first.ensures in
    let second = c.write_next-at_second.ensures in
    let third = c.write_next-at_third.ensures in
    let text = one ++ (two ++ three) in
    let room = 63 - c.write_next-at_first.result in
    let written =
    first.written ∙ ap (λ (t : List ℕ). one ++ t) (second.written ∙ ap (λ (t : List ℕ). two ++ t) (third.written ∙ append-nil three)) in
    let all : length text ≤ room =
    omega (arith, first.begins, second.begins, third.begins, length-append one (two ++ three), length-append two three) in
    let fields = ap (take room) written ∙ take_all room text all in
    rw (
      field_text-decimal c.args.first c.ranges.first.fits,
      field_text-decimal c.args.second c.ranges.second.fits,
      field_text-decimal c.args.third c.ranges.third.fits,
      append-nil (decimal c.args.third),
    )
    (on_ok-added c.extend_from_slice.result c.args.text.now.items c.extend_from_slice.new.self.items _ text c.extend_from_slice.ensures.items fields)
