-- Where things stand in a picture.
use Rattle.std.specs.Prelude.{Bool, ℕ, ◌+◌, ◌-◌, ◌*◌, if◌then◌else◌, nat_lt}
use Rattle.hlc_svg.specs.declared.frame.Frame.{Frame}
use Rattle.hlc_svg.specs.declared.frame.TheConstants.{FIRST_ROW, ROW}
use Rattle.hlc_svg.specs.declared.shapes.Point.{Point}

-- the row in which an event stands
abbrev pub row_of : Frame → ℕ → ℕ
row_of frame e = e - frame.first

-- where a lane stands, by where the first one does and how far it is from one to the next
abbrev pub lane_x : (first distance lane : ℕ) → ℕ
lane_x first distance lane = first + distance * lane

abbrev pub x_of : Frame → (lane : ℕ) → ℕ
x_of frame lane = lane_x frame.first_lane frame.lane_distance lane

-- where a row stands: time runs down
abbrev pub row_y : ℕ → ℕ
row_y row = FIRST_ROW + ROW * row

abbrev pub y_of : Frame → ℕ → ℕ
y_of frame e = row_y (row_of frame e)

-- the middle of the dot of an event on this lane
abbrev pub point_of : Frame → (lane e : ℕ) → Point
point_of frame lane e = record { x = x_of frame lane; y = y_of frame e }

-- this far from a lane, to the left or to the right
abbrev pub aside : Frame → (lane : ℕ) → (is_left : Bool) → (distance : ℕ) → ℕ
aside frame lane is_left distance = if is_left then x_of frame lane - distance else x_of frame lane + distance

-- this far from a lane towards another, or to the right if they are the same
abbrev pub towards : Frame → (lane other distance : ℕ) → ℕ
towards frame lane other distance = aside frame lane (nat_lt other lane) distance

-- the point at this height where a dot on a lane would end on the side of another
abbrev pub beside : Frame → (lane other y : ℕ) → Point
beside frame lane other y = record { x = towards frame lane other frame.half; y = y }
