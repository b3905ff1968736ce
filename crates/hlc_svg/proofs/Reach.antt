-- How far shapes reach, and how the text of one is put together.
use Rattle.std.proofs.Common.{◌≡◌, ◌∙◌, ℕ, ◌+◌, ◌-◌, ◌*◌, ◌≤◌, List, ◌++◌, ap, append_assoc, arith, codes, sym}
use Rattle.std.specs.Prelude.{decimal}
use Rattle.std.proofs.lemmas.Nat.{mul-le}
use Rattle.hlc_svg.specs.Reach.{DotsAreInRings, OutlinesAreWithin, RingsAreAround, RowsAreApart, RowsAreBelowTheBorder}
use Rattle.hlc_svg.specs.Shapes.{hexagon, ring_corner, ring_half, shape_text, top_text}
use Rattle.hlc_svg.proofs.Numerals.{eleven_is, zero_is}
use Rattle.hlc_svg.specs.declared.dot.TheConstants.{RING}
use Rattle.hlc_svg.specs.declared.look.Form.TheVariants.{Box, Dip, Hexagon, Peak, Pill, Slant}

pub outlines_are_within : OutlinesAreWithin
outlines_are_within Pill half = (omega arith, omega arith)
outlines_are_within Box half = (omega arith, omega arith)
outlines_are_within Hexagon half = (
  omega arith,
  omega arith,
  (omega arith, omega arith, (omega arith, omega arith, (omega arith, omega arith, (omega arith, omega arith, (omega arith, omega arith, tt))))),
)
outlines_are_within Slant half = (omega arith, omega arith, (omega arith, omega arith, (omega arith, omega arith, (omega arith, omega arith, tt))))
outlines_are_within Peak half =
    (omega arith, omega arith, (omega arith, omega arith, (omega arith, omega arith, (omega arith, omega arith, (omega arith, omega arith, tt)))))
outlines_are_within Dip half =
    (omega arith, omega arith, (omega arith, omega arith, (omega arith, omega arith, (omega arith, omega arith, (omega arith, omega arith, tt)))))

pub rings_are_around : RingsAreAround
rings_are_around half = (omega arith, (omega arith, omega arith))

square_bound : (n most : ℕ) → n ≤ most → n * n ≤ most * most
square_bound n most le = mul-le n n most most le le

pub dots_are_in_rings : DotsAreInRings
dots_are_in_rings half x y across down =
    let one : x - (half + RING - ring_corner) ≤ 4 = omega arith in
    let other : y - (ring_half - ring_corner) ≤ 4 = omega arith in
    (omega arith, omega arith, omega (arith, square_bound _ 4 one, square_bound _ 4 other))

pub rows_are_apart : RowsAreApart
rows_are_apart row = omega arith

pub rows_are_below_the_border : RowsAreBelowTheBorder
rows_are_below_the_border row = (omega arith, omega arith)

-- the text of a hexagon, with that of its upper side
pub hexagon_is : (half inner : ℕ) → shape_text (codes "hexagon") (hexagon half inner)
    ≡ codes "<polygon class=\"hexagon\" points=\"" ++ (top_text half inner ++ (codes " " ++ (decimal half ++ (codes ",0 " ++ (decimal inner
    ++ (codes ",11 -" ++ (decimal inner ++ codes ",11\"/>")))))))
unfolding shape_text
hexagon_is half inner =
    let rest = codes " " ++ (decimal half ++ (codes ",0 " ++ (decimal inner ++ (codes ",11 -" ++ (decimal inner ++ codes ",11\"/>"))))) in
    let last = append_assoc (decimal inner) (codes ",-11") rest in
    let middle =
    append_assoc (decimal inner) (codes ",-11 " ++ (decimal inner ++ codes ",-11")) rest
    ∙ ap (λ (t : List ℕ). decimal inner ++ (codes ",-11 " ++ t)) last
    in
    let top =
    append_assoc (decimal half) (codes ",0 -" ++ (decimal inner ++ (codes ",-11 " ++ (decimal inner ++ codes ",-11")))) rest
    ∙ ap (λ (t : List ℕ). decimal half ++ (codes ",0 -" ++ t)) middle
    in
    rw (zero_is, eleven_is) (sym (ap (λ (t : List ℕ). codes "<polygon class=\"hexagon\" points=\"-" ++ t) top))
