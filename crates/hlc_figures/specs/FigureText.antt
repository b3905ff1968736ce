-- What is drawn of an event, all of it, and its text.
use Rattle.std.specs.Prelude.{ℕ, ◌++◌, List, Option}
use Rattle.hlc_stamp.specs.declared.id.EventId.{EventId}
use Rattle.hlc_figures.specs.Content.{Content}
use Rattle.hlc_figures.specs.Figure.{arrow_of, band_of, dot_of, entering_of, leaving_of, link_of, stub_of}
use Rattle.hlc_figures.specs.Lanes.{lane_of}
use Rattle.hlc_svg.specs.Frame.{x_of, y_of}
use Rattle.hlc_figures.specs.Row.{Cell, row_at, row_text}
use Rattle.hlc_svg.specs.Shapes.{arrow_text, band_text, dot_text, end_text, lane_text, link_text, if_drawn, numbers_text}
use Rattle.hlc_figures.specs.Title.{title_text}
use Rattle.hlc_svg.specs.declared.arrow.Arrow.{Arrow}
use Rattle.hlc_svg.specs.declared.dot.Dot.{Dot}
use Rattle.hlc_svg.specs.declared.frame.Frame.{Frame}
use Rattle.hlc_figures.specs.declared.layer.Layer.{Layer}
use Rattle.hlc_figures.specs.declared.layer.Layer.TheVariants.{Back, Lines, Front}
use Rattle.hlc_svg.specs.declared.shapes.Band.{Band}
use Rattle.hlc_svg.specs.declared.shapes.End.{End}
use Rattle.hlc_svg.specs.declared.shapes.Lane.{Lane}
use Rattle.hlc_svg.specs.declared.shapes.Link.{Link}

-- what is drawn of an event
pub record Figure : Type 0 where
  pub dot : Dot
  pub title : List ℕ
  pub row : List Cell
  pub band : Option Band
  pub link : Option Link
  pub stub : Option Link
  pub arrow : Option Arrow
  pub entering : Option End
  pub leaving : Option End

-- a lane with its node's name, whole and as it is shown
pub record NamedLane : Type 0 where
  pub lane : Lane
  pub whole_name : List ℕ
  pub name : List ℕ

abbrev pub figure_of : Content → Option EventId → Frame → (lanes : List ℕ) → ℕ → Figure
figure_of c explained frame lanes e = record {
  dot = dot_of c explained frame lanes e;
  title = title_text c e;
  row = row_at c frame (y_of frame e) e;
  band = band_of c explained frame e;
  link = link_of c explained frame lanes e;
  stub = stub_of c explained frame lanes e;
  arrow = arrow_of c explained frame lanes e;
  entering = entering_of c explained frame lanes e;
  leaving = leaving_of c explained frame lanes e;
}

-- the lane of a node
abbrev pub lane_below : Frame → (lanes : List ℕ) → (node : ℕ) → Lane
lane_below frame lanes node = record { node = record { 0 = node }; x = x_of frame (lane_of lanes node); height = frame.height }

abbrev pub named_lane_of : Content → Frame → (lanes : List ℕ) → ℕ → NamedLane
named_lane_of c frame lanes node = record { lane = lane_below frame lanes node; whole_name = c.whole_name node; name = c.name node }

-- what of an event lies behind the lanes, what leads to it, and what stands before that: so no line runs over a number
unfoldable pub back_text : Figure → List ℕ
back_text f = if_drawn band_text f.band

unfoldable pub lines_text : Figure → List ℕ
lines_text f =
    if_drawn link_text f.link ++ (if_drawn link_text f.stub ++ (if_drawn arrow_text f.arrow ++ (if_drawn end_text f.entering ++ if_drawn end_text f.leaving)))

unfoldable pub front_text : Figure → List ℕ
front_text f = numbers_text f.entering f.leaving ++ (dot_text f.dot f.title ++ row_text f.row)

abbrev pub figure_text : Layer → Figure → List ℕ
figure_text Back = back_text
figure_text Lines = lines_text
figure_text Front = front_text

abbrev pub named_lane_text : NamedLane → List ℕ
named_lane_text s = lane_text s.lane s.whole_name s.name
