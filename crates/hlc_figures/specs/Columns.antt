-- The columns of the rows beside the lanes.
use Rattle.std.specs.Prelude.{◌≡◌, ℕ, zero, suc, ◌+◌, ◌-◌, ◌*◌, ◌/◌, ◌^◌, ◌++◌, ◌<◌, ◌≤◌, false, List, [], ◌∷◌, if◌then◌else◌, length, max, slice_index_or}
use Rattle.hlc_stamp.specs.Ids.{is_among}
use Rattle.hlc_figures.specs.Content.{Content}
use Rattle.hlc_figures.specs.Figure.{turn_distance}
use Rattle.hlc_svg.specs.Numbers.{digits_of}
use Rattle.hlc_figures.specs.declared.columns.TheConstants.{CHARACTER, GAP, LEAST_WIDTH}
use Rattle.hlc_svg.specs.declared.frame.Frame.{Frame}
use Rattle.hlc_svg.specs.declared.frame.TheConstants.{FIRST_LANE, LANE, NAME_ROOM}
use Rattle.hlc_svg.specs.declared.shapes.Border.{Border}
use Rattle.hlc_svg.specs.declared.shapes.Border.TheVariants.{Lower}
use Rattle.hlc_svg.specs.Frame.{lane_x, x_of}
use Rattle.hlc_svg.specs.Reach.{IsWithin}
use Rattle.hlc_svg.specs.Shapes.{ring_half, ring_of}

-- so many places from a first one on, rising
abbrev pub places_from : (first count : ℕ) → List ℕ
places_from first zero = []
places_from first (suc n) = places_from first n ++ (first + n) ∷ []

-- the greatest number at some places
abbrev pub greatest_number : (ℕ → ℕ) → List ℕ → ℕ
greatest_number number [] = 0
greatest_number number (e ∷ places) = max (number e) (greatest_number number places)

-- half the width of a dot, which has room for numbers up to this one
abbrev pub half_width : ℕ → ℕ
half_width number = 4 * max (digits_of number) 2 + 3

-- how far it is from one lane to the next: beside a dot an arrow may turn to a border, and pass the dots of the next lane
abbrev pub lane_distance : ℕ → ℕ
lane_distance half = max LANE (4 * half + 4)

-- where the first lane stands: if that isn't the lane of node 0, an arrow over a border may turn on its left
abbrev pub first_lane : (lanes : List ℕ) → (half : ℕ) → ℕ
first_lane lanes half = if is_among lanes 0 then FIRST_LANE else max FIRST_LANE (turn_distance Lower half + 4)

-- whatever its number, a dot on the first lane doesn't reach over the left border, nor does a ring around it
abbrev pub FirstLaneHasRoom : Type 0
FirstLaneHasRoom = (lanes : List ℕ) (distance number : ℕ) → number < 2 ^ 32 →
    IsWithin (lane_x (first_lane lanes (half_width number)) distance 0) ring_half (ring_of (half_width number))

-- nor does an arrow over a border that turns on its left
abbrev pub LeftArrowsHaveRoom : Type 0
LeftArrowsHaveRoom = (lanes : List ℕ) (half : ℕ) (border : Border) → is_among lanes 0 ≡ false → turn_distance border half < first_lane lanes half

-- the name of a node has room above its lane: half of it to the left border, where the first lane stands, and all of it from one lane to the next, and
-- from the last one to the columns
abbrev pub NamesHaveRoom : Type 0
NamesHaveRoom = (lanes : List ℕ) (half : ℕ) → (CHARACTER * NAME_ROOM / 2 < first_lane lanes half) × (CHARACTER * NAME_ROOM < lane_distance half)

-- how many characters the widest cell of a column has, and its heading
abbrev pub column_width : Content → List ℕ → (column : ℕ) → ℕ
column_width c places column = max (greatest_number (λ e. c.cell_width e column) places) LEAST_WIDTH

-- the columns stand after the lanes, each where the widest cell of the one before ends
abbrev pub column_from : Content → List ℕ → (start column : ℕ) → ℕ
column_from c places start zero = start
column_from c places start (suc column) = column_from c places start column + CHARACTER * (column_width c places column + GAP)

-- the places of the events that are drawn
abbrev pub places_in : Frame → List ℕ
places_in frame = places_from frame.first (frame.end - frame.first)

abbrev pub column_x : Content → Frame → (column : ℕ) → ℕ
column_x c frame column = column_from c (places_in frame) (x_of frame frame.lanes) column

-- where each column begins, and where the last one ends
pub record AreColumns (c : Content) (places : List ℕ) (start : ℕ) (columns : List ℕ) : Type 0 where
  pub each_begins : length columns ≡ c.columns + 1
  pub begin : (column : ℕ) → column ≤ c.columns → slice_index_or columns column 0 ≡ column_from c places start column

-- where they do so beside the lanes of a frame, for the events that are drawn
abbrev pub AreColumnsOf : Content → Frame → List ℕ → Type 0
AreColumnsOf c frame columns = AreColumns c (places_in frame) (x_of frame frame.lanes) columns
