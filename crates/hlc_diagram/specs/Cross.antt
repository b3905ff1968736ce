-- The arrows of messages that didn't arrive, each of which ends in a cross.
use Rattle.std.specs.Prelude.{Bool, ℕ, ◌+◌, ◌-◌, ◌*◌, ◌%◌, ◌++◌, ◌&&◌, List, Option, Some, None, codes, decimal, if◌then◌else◌, nat_le, nat_lt}
use Rattle.hlc_stamp.specs.Ids.{is_among}
use Rattle.hlc_figures.specs.Content.{Content}
use Rattle.hlc_figures.specs.Lanes.{lane_at, lane_of}
use Rattle.hlc_svg.specs.Frame.{row_of, x_of}
use Rattle.hlc_svg.specs.Path.{end_y, path_of, points_text}
use Rattle.hlc_diagram.specs.declared.cross.Cross.{Cross}
use Rattle.hlc_diagram.specs.declared.cross.TheConstants.{HEIGHTS, MIDWAY, STEP}
use Rattle.hlc_svg.specs.declared.frame.Frame.{Frame}
use Rattle.hlc_diagram.specs.declared.failed.Failed.{Failed}
use Rattle.hlc_diagram.specs.declared.undelivered.Undelivered.{Undelivered}

-- whether a message is shown: there is its lane, and drawn are its send and the event before the next one
abbrev pub is_shown : Frame → (lanes : List ℕ) → Undelivered → Bool
is_shown frame lanes m = ((nat_le frame.first m.send.0 && nat_lt m.send.0 m.before.0) && nat_le m.before.0 frame.end) && is_among lanes m.to.0

-- its arrow runs from the dot of its send to beside the lane of its node, and ends between the rows of that event and the next one, from midway on,
-- at one of some heights, which take turns
abbrev pub below : (place : ℕ) → ℕ
below place = MIDWAY + STEP * (place % HEIGHTS)

abbrev pub cross_to : Content → Frame → (lanes : List ℕ) → Failed → Cross
cross_to c frame lanes m = record {
  failed = m;
  number = c.number m.first.send.0;
  route = record {
    from_row = row_of frame m.first.send.0;
    to_row = row_of frame (m.first.before.0 - 1);
    below = below m.place;
    from = record { 0 = lane_at c lanes m.first.send.0 };
    to = record { 0 = lane_of lanes m.first.to.0 };
    reach = frame.half;
    frame = frame;
  };
}

-- an arrow with the name of that node
pub record NamedCross : Type 0 where
  pub cross : Cross
  pub name : List ℕ

abbrev pub named_cross : Content → Cross → NamedCross
named_cross c x = record { cross = x; name = c.name x.failed.first.to.0 }

-- what is drawn of a message
abbrev pub cross_of : Content → Frame → (lanes : List ℕ) → Failed → Option NamedCross
cross_of c frame lanes m = if is_shown frame lanes m.first then Some (named_cross c (cross_to c frame lanes m)) else None

-- the text of an arrow: its line, and a title that says which message it is of
abbrev pub cross_begins : Cross → List ℕ
cross_begins x = codes "<polyline class=\"x\" points=\"" ++ points_text (path_of x.route)

abbrev pub cross_title : Cross → List ℕ
cross_title x = codes "\"><title>the message of event " ++ (decimal x.number ++ codes " didn't reach ")

-- if it failed to arrive more than once, the title says how often, and so does a number on the lane, beside the cross
abbrev pub times_text : (times x y : ℕ) → List ℕ
times_text times x y =
    codes ", " ++ (decimal times ++ (codes " times</title></polyline>\n<text class=\"y\" x=\"" ++ (decimal x ++ (codes "\" y=\"" ++ (decimal y
    ++ (codes "\">&#215;" ++ (decimal times ++ codes "</text>\n")))))))

abbrev pub title_ends : Cross → List ℕ
title_ends x =
    if nat_le x.failed.times 1 then codes "</title></polyline>\n" else
    times_text x.failed.times (x_of x.route.frame x.route.to.0) (end_y x.route + 4)

unfoldable pub cross_text : NamedCross → List ℕ
cross_text x = cross_begins x.cross ++ (cross_title x.cross ++ (x.name ++ title_ends x.cross))
