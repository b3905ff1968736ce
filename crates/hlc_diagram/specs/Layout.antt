-- Where things stand in the picture of a view.
use Rattle.std.specs.Prelude.{ℕ, ◌+◌, ◌-◌, ◌*◌, List, length, min, max}
use Rattle.hlc_figures.specs.Content.{Content}
use Rattle.hlc_svg.specs.declared.frame.Frame.{Frame}
use Rattle.hlc_svg.specs.declared.frame.TheConstants.{FIRST_ROW, ROW, LEAST_PICTURE}
use Rattle.hlc_diagram.specs.declared.view.View.{View}
use Rattle.hlc_svg.specs.Frame.{lane_x}
use Rattle.hlc_figures.specs.Columns.{column_from, first_lane, greatest_number, half_width, lane_distance, places_from}
use Rattle.hlc_figures.specs.Lanes.{lanes_of}

-- the place before which the last event that is drawn stands
abbrev pub end_of : Content → View → ℕ
end_of c view = min (view.last.0 + 1) (length c.events)

-- the place of the first event that is drawn, or where it would stand
abbrev pub first_of : Content → View → ℕ
first_of c view = min view.first.0 (end_of c view)

-- where things stand if these events are drawn, with dots of this width, on these lanes
abbrev pub frame_with : Content → (first end half : ℕ) → (lanes : List ℕ) → Frame
frame_with c first end half lanes = record {
  first = first;
  end = end;
  nodes = c.nodes;
  lanes = length lanes;
  half = half;
  first_lane = first_lane lanes half;
  lane_distance = lane_distance half;
  width =
      max (column_from c (places_from first (end - first)) (lane_x (first_lane lanes half) (lane_distance half) (length lanes)) c.columns) LEAST_PICTURE;
  height = FIRST_ROW + ROW * (end - first);
}

-- where they do in the picture of a view with these lanes
abbrev pub frame_on : Content → View → (lanes : List ℕ) → Frame
frame_on c view lanes =
    let first = first_of c view in
    let end = end_of c view in
    frame_with c first end (half_width (greatest_number c.shown (places_from first (end - first)))) lanes

-- the lanes of a picture
abbrev pub lanes_in : Content → View → List ℕ
lanes_in c view = lanes_of c (places_from (first_of c view) (end_of c view - first_of c view))

-- where things stand in a picture
abbrev pub frame_of : Content → View → Frame
frame_of c view = frame_on c view (lanes_in c view)
