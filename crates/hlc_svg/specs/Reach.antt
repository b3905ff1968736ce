-- How far shapes reach from the middle of a dot, and where they have room.
use Rattle.std.specs.Prelude.{ℕ, ◌+◌, ◌-◌, ◌*◌, ◌/◌, ◌<◌, ◌≤◌, List, [], ◌∷◌}
use Rattle.hlc_svg.specs.Frame.{row_y}
use Rattle.hlc_svg.specs.Shapes.{Minus, Coordinate, Plus, Polygon, Rectangle, Shape, outline_of, ring_corner, ring_half, ring_of}
use Rattle.hlc_svg.specs.declared.dot.TheConstants.{RING}
use Rattle.hlc_svg.specs.declared.frame.TheConstants.{HALF_HEIGHT, HEADING_Y, ROW, TOP}
use Rattle.hlc_svg.specs.declared.look.Form.{Form}
use Rattle.hlc_svg.specs.declared.route.TheConstants.{AROUND}

-- how far something is from the middle
abbrev pub distance_of : Coordinate → ℕ
distance_of (Minus n) = n
distance_of (Plus n) = n

-- corners are no further from the middle than so far across, and so far up and down
abbrev pub AreWithin : (across down : ℕ) → List (Coordinate × Coordinate) → Type 0
AreWithin across down [] = Unit {0}
AreWithin across down (corner ∷ rest) = (distance_of corner.0 ≤ across) × (distance_of corner.1 ≤ down) × AreWithin across down rest

-- a shape lies within that
abbrev pub IsWithin : (across down : ℕ) → Shape → Type 0
IsWithin across down (Rectangle to_sides up_and_down radius) = (to_sides ≤ across) × (up_and_down ≤ down)
IsWithin across down (Polygon corners) = AreWithin across down corners

-- the outline of a dot lies within half the dot's width and height, from which arrows keep clear
abbrev pub OutlinesAreWithin : Type 0
OutlinesAreWithin = (form : Form) (half : ℕ) → IsWithin half HALF_HEIGHT (outline_of form half)

-- a ring is higher than the dot in it. It lies within what an arrow that goes around the dot keeps from it, and arrows cross a lane below it, midway
-- between two rows.
abbrev pub RingsAreAround : Type 0
RingsAreAround = (half : ℕ) → (HALF_HEIGHT < ring_half) × IsWithin (half + AROUND) (ROW / 2) (ring_of half)

-- how far a coordinate lies past another, squared
abbrev pub past_squared : (n past : ℕ) → ℕ
past_squared n past = (n - past) * (n - past)

-- the outline of a dot lies in the ring around it, corners too: what lies within the dot with half its line, lies within the inner edge of the ring's line,
-- the corners of which are arcs
abbrev pub DotsAreInRings : Type 0
DotsAreInRings = (half x y : ℕ) → x ≤ half + 1 → y ≤ HALF_HEIGHT + 1 →
    (x ≤ half + RING - 1) × (y ≤ ring_half - 1)
    × (past_squared x (half + RING - ring_corner) + past_squared y (ring_half - ring_corner) ≤ (ring_corner - 1) * (ring_corner - 1))

-- a ring ends above the ring in the next row, and so does a dot
abbrev pub RowsAreApart : Type 0
RowsAreApart = (row : ℕ) → row_y row + ring_half + ring_half < row_y (row + 1)

-- all rows stand below the upper border, and that below the names and headings
abbrev pub RowsAreBelowTheBorder : Type 0
RowsAreBelowTheBorder = (row : ℕ) → (TOP + ring_half ≤ row_y row) × (HEADING_Y < TOP)
