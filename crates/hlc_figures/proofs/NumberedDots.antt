-- Dots and arrows that have room.
use Rattle.std.proofs.Common.{◌≤◌, inl, inr, arith}
use Rattle.std.proofs.lemmas.Bool.{cases_Bool}
use Rattle.std.proofs.lemmas.Fmt.{length-decimal-le}
use Rattle.hlc_stamp.specs.Ids.{is_among}
use Rattle.hlc_svg.specs.Numbers.{digits_of}
use Rattle.hlc_svg.specs.declared.shapes.Border.TheVariants.{Lower, Upper}
use Rattle.hlc_figures.specs.Columns.{FirstLaneHasRoom, LeftArrowsHaveRoom, NamesHaveRoom}

pub first_lane_has_room : FirstLaneHasRoom
first_lane_has_room lanes distance number fits =
    let few : digits_of number ≤ 10 = length-decimal-le 10 number (omega arith) (omega arith) (omega arith) in
    elim (cases_Bool (is_among lanes 0)) [
      | inl first ↦ rw first (omega arith, omega arith)
      | inr later ↦ rw later (omega arith, omega arith)
    ]

pub left_arrows_have_room : LeftArrowsHaveRoom
left_arrows_have_room lanes half Upper later = rw later (omega arith)
left_arrows_have_room lanes half Lower later = rw later (omega arith)

pub names_have_room : NamesHaveRoom
names_have_room lanes half =
    elim (cases_Bool (is_among lanes 0)) [
      | inl first ↦ rw first (omega arith, omega arith)
      | inr later ↦ rw later (omega arith, omega arith)
    ]
