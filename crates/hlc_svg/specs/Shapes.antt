-- The text of what a picture is made of.
use Rattle.std.specs.Prelude.{Bool, true, false, ℕ, ◌+◌, ◌-◌, ◌*◌, ◌++◌, List, [], ◌∷◌, Option, Some, None, codes, decimal, if◌then◌else◌}
use Rattle.hlc_svg.specs.Path.{course_of, path_of, points_text}
use Rattle.hlc_svg.specs.declared.arrow.Arrow.{Arrow}
use Rattle.hlc_svg.specs.declared.dot.Dot.{Dot}
use Rattle.hlc_svg.specs.declared.dot.TheConstants.{RING}
use Rattle.hlc_svg.specs.declared.frame.TheConstants.{HALF_HEIGHT, HEADING_Y, ROW, TOP}
use Rattle.hlc_svg.specs.declared.look.Form.{Form}
use Rattle.hlc_svg.specs.declared.look.Form.TheVariants.{Box, Dip, Hexagon, Peak, Pill, Slant}
use Rattle.hlc_svg.specs.declared.look.Look.{Look}
use Rattle.hlc_svg.specs.declared.shapes.Band.{Band}
use Rattle.hlc_svg.specs.declared.shapes.Border.{Border}
use Rattle.hlc_svg.specs.declared.shapes.Border.TheVariants.{Lower, Upper}
use Rattle.hlc_svg.specs.declared.shapes.End.{End}
use Rattle.hlc_svg.specs.declared.shapes.Lane.{Lane}
use Rattle.hlc_svg.specs.declared.shapes.Link.{Link}

-- a node's whole name as a title, as much of it as is shown, and its lane below
abbrev pub name_begins : Lane → List ℕ
name_begins s = codes "<text class=\"n\" x=\"" ++ (decimal s.x ++ (codes "\" y=\"" ++ (decimal HEADING_Y ++ codes "\"><title>")))

abbrev pub lane_line : Lane → List ℕ
lane_line s =
    codes "</text><line class=\"l\" x1=\"" ++ (decimal s.x ++ (codes "\" y1=\"" ++ (decimal TOP ++ (codes "\" x2=\"" ++ (decimal s.x
    ++ (codes "\" y2=\"" ++ (decimal s.height ++ codes "\"/>\n")))))))

unfoldable pub lane_text : Lane → (whole name : List ℕ) → List ℕ
lane_text s whole name = name_begins s ++ (whole ++ (codes "</title>" ++ (name ++ lane_line s)))

-- what lies behind a row, as high as it
abbrev pub band_text : Band → List ℕ
band_text s =
    codes "<rect class=\"b\" x=\"0\" y=\"" ++ (decimal s.y ++ (codes "\" width=\"" ++ (decimal s.width
    ++ (codes "\" height=\"" ++ (decimal ROW ++ codes "\"/>\n")))))

abbrev pub link_text : Link → List ℕ
link_text s =
    codes "<line class=\"v\" x1=\"" ++ (decimal s.x ++ (codes "\" y1=\"" ++ (decimal s.from ++ (codes "\" x2=\"" ++ (decimal s.x
    ++ (codes "\" y2=\"" ++ (decimal s.to ++ codes "\"/>\n")))))))

-- the line of an arrow
abbrev pub arrow_begins : Arrow → List ℕ
arrow_begins s = codes "<polyline class=\"" ++ ((if s.is_marked then codes "p" else codes "m") ++ codes "\" points=\"")

abbrev pub arrow_text : Arrow → List ℕ
arrow_text s = arrow_begins s ++ (points_text (path_of s.route) ++ codes "\"/>\n")

-- the class of an arrow over a border, by which the style gives it its head: what comes in has it at the dot, and what leaves in the same row, below
-- where it turns
abbrev pub end_class : Border → Bool → List ℕ
end_class Upper false = codes "e"
end_class Upper true = codes "q"
end_class Lower false = codes "o"
end_class Lower true = codes "s"

-- the line of such an arrow
abbrev pub end_text : End → List ℕ
end_text s =
    codes "<polyline class=\"" ++ (end_class s.border s.is_marked ++ (codes "\" points=\"" ++ (points_text (course_of s) ++ codes "\"/>\n")))

-- the number of the event at its other end
abbrev pub number_text : End → List ℕ
number_text s =
    codes "<text class=\"f\" x=\"" ++ (decimal s.number_x ++ (codes "\" y=\"" ++ (decimal (s.y - 3)
    ++ (codes "\">" ++ (decimal s.number ++ codes "</text>\n")))))

-- how far something is from the middle of a dot: to the left of it or above it, or to the right or below
pub data Coordinate : Type 0 where
  Minus : ℕ → Coordinate
  Plus : ℕ → Coordinate

-- a shape around the middle of a dot: a rectangle that reaches so far to both sides, so far up and down, with corners rounded so far; or one
-- between corners, each so far across and so far down
pub data Shape : Type 0 where
  Rectangle : (across down radius : ℕ) → Shape
  Polygon : List (Coordinate × Coordinate) → Shape

-- a hexagon, with its upper and lower sides so wide
abbrev pub hexagon : (half inner : ℕ) → Shape
hexagon half inner =
    Polygon ((Minus half, Plus 0) ∷ (Minus inner, Minus 11) ∷ (Plus inner, Minus 11) ∷ (Plus half, Plus 0) ∷ (Plus inner, Plus 11)
    ∷ (Minus inner, Plus 11) ∷ [])

-- the outline of a dot of this half width, and its name
abbrev pub outline_of : Form → (half : ℕ) → Shape
outline_of Pill half = Rectangle half HALF_HEIGHT HALF_HEIGHT
outline_of Box half = Rectangle half HALF_HEIGHT 2
outline_of Hexagon half = hexagon half (half - 6)
outline_of Slant half = Polygon ((Minus (half - 6), Minus 11) ∷ (Plus half, Minus 11) ∷ (Plus (half - 6), Plus 11) ∷ (Minus half, Plus 11) ∷ [])
outline_of Peak half =
    Polygon ((Minus half, Minus 4) ∷ (Plus 0, Minus 11) ∷ (Plus half, Minus 4) ∷ (Plus half, Plus 11) ∷ (Minus half, Plus 11) ∷ [])
outline_of Dip half =
    Polygon ((Minus half, Minus 11) ∷ (Plus half, Minus 11) ∷ (Plus half, Plus 4) ∷ (Plus 0, Plus 11) ∷ (Minus half, Plus 4) ∷ [])

abbrev pub form_name : Form → List ℕ
form_name Pill = codes "pill"
form_name Box = codes "box"
form_name Hexagon = codes "hexagon"
form_name Slant = codes "slant"
form_name Peak = codes "peak"
form_name Dip = codes "dip"

-- the ring around a dot, and half its height. Its corners are rounded less than those of a pill, so that the corners of all dots lie within it
abbrev pub ring_half : ℕ
ring_half = 15

abbrev pub ring_corner : ℕ
ring_corner = 7

abbrev pub ring_of : (half : ℕ) → Shape
ring_of half = Rectangle (half + RING) ring_half ring_corner

-- how far a dot reaches to its sides, with the ring around it if it has one
abbrev pub reach_of : Look → (half : ℕ) → ℕ
reach_of look half = if look.is_ringed then half + RING else half

-- the text of a shape: corners one after the other, and its name
abbrev pub coordinate_text : Coordinate → List ℕ
coordinate_text (Minus n) = codes "-" ++ decimal n
coordinate_text (Plus n) = decimal n

abbrev pub corners_text : List (Coordinate × Coordinate) → List ℕ
corners_text [] = codes "\"/>"
corners_text (corner ∷ []) = coordinate_text corner.0 ++ (codes "," ++ (coordinate_text corner.1 ++ codes "\"/>"))
corners_text (corner ∷ next ∷ rest) = coordinate_text corner.0 ++ (codes "," ++ (coordinate_text corner.1 ++ (codes " " ++ corners_text (next ∷ rest))))

unfoldable pub shape_text : (name : List ℕ) → Shape → List ℕ
shape_text name (Rectangle across down radius) =
    codes "<rect class=\"" ++ (name ++ (codes "\" x=\"-" ++ (decimal across ++ (codes "\" y=\"-" ++ (decimal down ++ (codes "\" width=\""
    ++ (decimal (2 * across) ++ (codes "\" height=\"" ++ (decimal (2 * down) ++ (codes "\" rx=\"" ++ (decimal radius ++ codes "\"/>")))))))))))
shape_text name (Polygon corners) = codes "<polygon class=\"" ++ (name ++ (codes "\" points=\"" ++ corners_text corners))

abbrev pub outline_text : Form → (half : ℕ) → List ℕ
outline_text form half = shape_text (form_name form) (outline_of form half)

abbrev pub ring_text : (half : ℕ) → List ℕ
ring_text half = shape_text (codes "r") (ring_of half)

-- the upper side of a hexagon
abbrev pub top_text : (half inner : ℕ) → List ℕ
top_text half inner = codes "-" ++ (decimal half ++ (codes ",0 -" ++ (decimal inner ++ (codes ",-11 " ++ (decimal inner ++ codes ",-11")))))

abbrev pub ring_if : Bool → (half : ℕ) → List ℕ
ring_if false half = []
ring_if true half = ring_text half

-- a dot with the number that is shown of its event, which can be pointed at and asked for what its title tells
unfoldable pub dot_begins : Dot → List ℕ
dot_begins s =
    codes "<g id=\"e" ++ (decimal s.number ++ (codes "\" class=\"" ++ ((if s.is_marked then codes "k" else codes "d")
    ++ (codes "\" tabindex=\"0\" transform=\"translate(" ++ (decimal s.at.x ++ (codes "," ++ (decimal s.at.y ++ codes ")\">")))))))

unfoldable pub dot_ends : Dot → List ℕ
dot_ends s = outline_text s.look.form s.half ++ (codes "<text y=\"4\">" ++ (decimal s.shown ++ codes "</text></g>\n"))

unfoldable pub dot_text : Dot → (title : List ℕ) → List ℕ
dot_text s title = dot_begins s ++ (title ++ (ring_if s.look.is_ringed s.half ++ dot_ends s))

-- the text of something, if it is drawn
abbrev pub if_drawn : {X : Type 0} → (X → List ℕ) → Option X → List ℕ
if_drawn text None = []
if_drawn text (Some x) = text x

-- the numbers at the arrows over a border that come to a dot and leave it, if they are drawn
abbrev pub numbers_text : (entering leaving : Option End) → List ℕ
numbers_text entering leaving = if_drawn number_text entering ++ if_drawn number_text leaving
