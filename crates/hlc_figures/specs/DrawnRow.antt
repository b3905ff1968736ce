-- What is drawn in a row of a picture, and its text.
use Rattle.std.specs.Prelude.{ℕ, List, Option, Some, None}
use Rattle.hlc_stamp.specs.declared.id.EventId.{EventId}
use Rattle.hlc_figures.specs.ChainFigure.{counted_in, gap_text, stop_figure}
use Rattle.hlc_figures.specs.Content.{Content}
use Rattle.hlc_figures.specs.FigureText.{Figure, figure_of, figure_text}
use Rattle.hlc_figures.specs.declared.chain_figure.Counted.{Counted}
use Rattle.hlc_figures.specs.declared.layer.Layer.{Layer}
use Rattle.hlc_figures.specs.declared.rows.Row.{Row}
use Rattle.hlc_figures.specs.declared.rows.Row.TheVariants.{Between, Chained, Event}
use Rattle.hlc_figures.specs.declared.scene.Scene.{Scene}
use Rattle.hlc_svg.specs.declared.frame.Frame.{Frame}

-- an event, or how many events lie between two of a chain
pub data DrawnRow : Type 0 where
  OfEvent : Figure → DrawnRow
  OfGap : Counted → DrawnRow

-- what is drawn in a row
abbrev pub drawn_row : Content → (explained : Option EventId) → Frame → (lanes : List ℕ) → Row → DrawnRow
drawn_row c explained frame lanes (Event e) = OfEvent (figure_of c explained frame lanes e.0)
drawn_row c explained frame lanes (Chained stop) = OfEvent (stop_figure c frame lanes stop)
drawn_row c explained frame lanes (Between gap) = OfGap (counted_in frame gap)

-- and in a row of a scene
abbrev pub drawn_in : Content → Scene → Row → DrawnRow
drawn_in c s row = drawn_row c s.explained s.frame s.lanes.now row

-- what is drawn of its event, if it has one
abbrev pub figure_in : DrawnRow → Option Figure
figure_in (OfEvent figure) = Some figure
figure_in (OfGap counted) = None

-- what a layer has of what is drawn in a row
abbrev pub layer_text : Layer → DrawnRow → List ℕ
layer_text layer (OfEvent figure) = figure_text layer figure
layer_text layer (OfGap counted) = gap_text layer counted
