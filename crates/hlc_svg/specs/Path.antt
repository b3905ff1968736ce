-- The lines of arrows, by where these run.
use Rattle.std.specs.Prelude.{ℕ, zero, suc, ◌+◌, ◌-◌, ◌*◌, ◌/◌, ◌==◌, ◌++◌, List, [], ◌∷◌, codes, decimal, if◌then◌else◌, nat_lt}
use Rattle.std.specs.Int.{abs_diff}
use Rattle.hlc_svg.specs.Frame.{beside, row_y, towards}
use Rattle.hlc_svg.specs.declared.route.TheConstants.{AROUND, FURTHER, SLANT}
use Rattle.hlc_svg.specs.declared.route.Route.{Route}
use Rattle.hlc_svg.specs.declared.frame.TheConstants.{ROW}
use Rattle.hlc_svg.specs.declared.shapes.Border.{Border}
use Rattle.hlc_svg.specs.declared.shapes.Border.TheVariants.{Lower, Upper}
use Rattle.hlc_svg.specs.declared.shapes.End.{End}
use Rattle.hlc_svg.specs.declared.shapes.Point.{Point}

-- how many lanes it is from the one end of an arrow to the other
abbrev pub lanes_of : Route → ℕ
lanes_of a = abs_diff a.from.0 a.to.0

-- the lane at a place of its way
abbrev pub lane_at : Route → (place : ℕ) → ℕ
lane_at a place = if nat_lt a.from.0 a.to.0 then a.from.0 + place else a.from.0 - place

-- how high that lane is crossed: midway between two rows, which are taken so that the arrow falls evenly
abbrev pub crossing_y : Route → (place : ℕ) → ℕ
crossing_y a place = row_y a.from_row + ROW * ((a.to_row - a.from_row) * place / lanes_of a) + ROW / 2

-- how high it ends: in the middle of a row, or so far below
abbrev pub end_y : Route → ℕ
end_y a = row_y a.to_row + a.below

-- an arrow begins beside a lane, where a dot on it would end, and ends so far beside another
abbrev pub arrow_start : Route → Point
arrow_start a = beside a.frame a.from.0 a.to.0 (row_y a.from_row)

abbrev pub arrow_end : Route → Point
arrow_end a = record { x = towards a.frame a.to.0 a.from.0 a.reach; y = end_y a }

-- and crosses a lane level, over the width of a dot
abbrev pub crossing_start : Route → (place : ℕ) → Point
crossing_start a place = beside a.frame (lane_at a place) a.from.0 (crossing_y a place)

abbrev pub crossing_end : Route → (place : ℕ) → Point
crossing_end a place = beside a.frame (lane_at a place) a.to.0 (crossing_y a place)

-- the points of its line from a place on, with this many lanes still to be crossed
abbrev pub path_from : Route → (place left : ℕ) → List Point
path_from a place zero = arrow_end a ∷ []
path_from a place (suc left) = crossing_start a place ∷ crossing_end a place ∷ path_from a (place + 1) left

-- the points of its line across the lanes
abbrev pub way_of : Route → List Point
way_of a = arrow_start a ∷ path_from a 1 (lanes_of a - 1)

-- how far from its lane one to the same lane goes: further, if it ends below a row
abbrev pub around_distance : Route → ℕ
around_distance a = a.frame.half + (if a.below == 0 then AROUND else FURTHER)

abbrev pub around_x : Route → ℕ
around_x a = towards a.frame a.from.0 a.to.0 (around_distance a)

-- the points of its line, which goes around the dots between: out and back at a slant, and in between straight down
abbrev pub way_around : Route → List Point
way_around a =
    arrow_start a ∷ record { x = around_x a; y = row_y a.from_row + SLANT } ∷ record { x = around_x a; y = end_y a - SLANT } ∷ arrow_end a ∷ []

-- the points of an arrow's line, which is straight between them
abbrev pub path_of : Route → List Point
path_of a = if a.from.0 == a.to.0 then way_around a else way_of a

-- the points of the line of an arrow over a border: it comes in over the upper one and turns to the dot, or turns down to the lower one
abbrev pub course_along : Border → (x turn_x y border_y : ℕ) → List Point
course_along Upper x turn_x y border_y = record { x = turn_x; y = border_y } ∷ record { x = turn_x; y = y } ∷ record { x = x; y = y } ∷ []
course_along Lower x turn_x y border_y = record { x = x; y = y } ∷ record { x = turn_x; y = y } ∷ record { x = turn_x; y = border_y } ∷ []

abbrev pub course_of : End → List Point
course_of s = course_along s.border s.x s.turn_x s.y s.border_y

-- the text of a point, and of points
abbrev pub point_text : Point → List ℕ
point_text p = decimal p.x ++ (codes "," ++ decimal p.y)

abbrev pub points_text : List Point → List ℕ
points_text [] = []
points_text (p ∷ []) = point_text p
points_text (p ∷ q ∷ rest) = point_text p ++ (codes " " ++ points_text (q ∷ rest))

-- and of a crossing
abbrev pub crossing_text : Route → (place : ℕ) → List ℕ
crossing_text a place = codes " " ++ (point_text (crossing_start a place) ++ (codes " " ++ point_text (crossing_end a place)))
