-- What is drawn of a chain, and its text.
use Rattle.std.specs.Prelude.{ℕ, ◌==◌, ◌++◌, ◌<◌, true, List, [], Option, Some, None, IfSome, codes, decimal, if◌then◌else◌, length}
use Rattle.std.specs.Option.{option_and_then}
use Rattle.hlc_causality.specs.Causality.{skeleton_at}
use Rattle.hlc_causality.specs.FollowedChains.{is_event}
use Rattle.hlc_figures.specs.Content.{Content, node_at}
use Rattle.hlc_figures.specs.Lanes.{lane_at}
use Rattle.hlc_svg.specs.Frame.{row_y, x_of}
use Rattle.hlc_figures.specs.FigureText.{Figure}
use Rattle.hlc_figures.specs.Row.{row_at}
use Rattle.hlc_figures.specs.Standing.{arrow_along, band_at, dot_at}
use Rattle.hlc_figures.specs.Title.{title_text}
use Rattle.hlc_svg.specs.declared.arrow.Arrow.{Arrow}
use Rattle.hlc_figures.specs.declared.chain_figure.Counted.{Counted}
use Rattle.hlc_figures.specs.declared.rows.Gap.{Gap}
use Rattle.hlc_figures.specs.declared.standing.Standing.{Standing}
use Rattle.hlc_figures.specs.declared.rows.Stop.{Stop}
use Rattle.hlc_svg.specs.declared.frame.Frame.{Frame}
use Rattle.hlc_figures.specs.declared.layer.Layer.{Layer}
use Rattle.hlc_figures.specs.declared.layer.Layer.TheVariants.{Back, Front, Lines}
use Rattle.hlc_svg.specs.declared.shapes.Link.{Link}

-- the step from one event to another along a lane
abbrev pub link_between : Content → Frame → (lanes : List ℕ) → (e d : Standing) → Option Link
link_between c frame lanes e d =
    if node_at c d.event.0 == node_at c e.event.0 then
    Some (record { x = x_of frame (lane_at c lanes e.event.0); from = row_y d.row; to = row_y e.row }) else None

abbrev pub stop_link : Content → Frame → (lanes : List ℕ) → Stop → Option Link
stop_link c frame lanes s = option_and_then (link_between c frame lanes s.at) s.before

-- and the one by a message, from its send to its delivery
abbrev pub arrow_if_sent : Content → Frame → (lanes : List ℕ) → (e d : Standing) → Option Arrow
arrow_if_sent c frame lanes e d =
    if is_event (skeleton_at c.events e.event.0).send d.event.0 then Some (arrow_along c frame lanes d e true) else None

abbrev pub stop_arrow : Content → Frame → (lanes : List ℕ) → Stop → Option Arrow
stop_arrow c frame lanes s = option_and_then (arrow_if_sent c frame lanes s.at) s.before

-- what is drawn of an event of the chain
abbrev pub stop_figure : Content → Frame → (lanes : List ℕ) → Stop → Figure
stop_figure c frame lanes s = record {
  dot = dot_at c frame lanes s.at true;
  title = title_text c s.at.event.0;
  row = row_at c frame (row_y s.at.row) s.at.event.0;
  band = Some (band_at frame s.at);
  link = stop_link c frame lanes s;
  stub = None;
  arrow = stop_arrow c frame lanes s;
  entering = None;
  leaving = None;
}

-- what is drawn of events that lie between two of the chain: how many they are
abbrev pub counted_in : Frame → Gap → Counted
counted_in frame g = record { x = x_of frame frame.lanes; y = row_y g.row; count = g.count }

abbrev pub events_word : ℕ → List ℕ
events_word count = if count == 1 then codes "event" else codes "events"

abbrev pub count_begins : Counted → List ℕ
count_begins g =
    codes "<text class=\"h\" x=\"" ++ (decimal g.x ++ (codes "\" y=\"" ++ (decimal g.y ++ (codes "\" dy=\"4\">&#8230; "
    ++ (decimal g.count ++ codes " ")))))

unfoldable pub counted_text : Counted → List ℕ
counted_text g = count_begins g ++ (events_word g.count ++ codes "</text>\n")

-- which stands in front
abbrev pub gap_text : Layer → Counted → List ℕ
gap_text Back g = []
gap_text Lines g = []
gap_text Front g = counted_text g

-- the events of a row of the chain exist
abbrev pub StopExists : Content → Stop → Type 0
StopExists c s = (s.at.event.0 < length c.events) × IfSome s.before (λ d. d.event.0 < length c.events)
