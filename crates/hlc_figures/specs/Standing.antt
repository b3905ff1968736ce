-- Where an event stands, and what is drawn there.
use Rattle.std.specs.Prelude.{Bool, ℕ, ◌-◌, ◌/◌, List}
use Rattle.hlc_figures.specs.Content.{Content}
use Rattle.hlc_figures.specs.Lanes.{lane_at}
use Rattle.hlc_figures.specs.declared.standing.Standing.{Standing}
use Rattle.hlc_svg.specs.Frame.{row_of, row_y, x_of}
use Rattle.hlc_svg.specs.Shapes.{reach_of}
use Rattle.hlc_svg.specs.declared.arrow.Arrow.{Arrow}
use Rattle.hlc_svg.specs.declared.dot.Dot.{Dot}
use Rattle.hlc_svg.specs.declared.frame.Frame.{Frame}
use Rattle.hlc_svg.specs.declared.frame.TheConstants.{ROW}
use Rattle.hlc_svg.specs.declared.shapes.Band.{Band}

-- where an event of a range stands
abbrev pub stand_in : Frame → ℕ → Standing
stand_in frame e = record { event = record { 0 = e }; row = row_of frame e }

-- the dot of an event
abbrev pub dot_at : Content → Frame → (lanes : List ℕ) → Standing → (marked : Bool) → Dot
dot_at c frame lanes s marked = record {
  event = s.event;
  number = c.number s.event.0;
  shown = c.shown s.event.0;
  at = record { x = x_of frame (lane_at c lanes s.event.0); y = row_y s.row };
  half = frame.half;
  look = c.look s.event.0;
  is_marked = marked;
}

-- what lies behind the row of a marked event
abbrev pub band_at : Frame → Standing → Band
band_at frame s = record { y = row_y s.row - ROW / 2; width = frame.width }

-- an arrow runs from the dot of a send to that of a delivery, or to the ring around that
abbrev pub arrow_along : Content → Frame → (lanes : List ℕ) → (sent delivered : Standing) → (marked : Bool) → Arrow
arrow_along c frame lanes sent delivered marked = record {
  sent = sent.event;
  delivered = delivered.event;
  route = record {
    from_row = sent.row;
    to_row = delivered.row;
    below = 0;
    from = record { 0 = lane_at c lanes sent.event.0 };
    to = record { 0 = lane_at c lanes delivered.event.0 };
    reach = reach_of (c.look delivered.event.0) frame.half;
    frame = frame;
  };
  is_marked = marked;
}
