-- What is drawn of an execution.
use Rattle.std.specs.Prelude.{◌≡◌, ℕ, ◌<◌, ◌≤◌, All, length}
use Rattle.hlc_causality.specs.Neighbours.{place_of}
use Rattle.hlc_figures.specs.ChainFigure.{StopExists}
use Rattle.hlc_figures.specs.Chosen.{AreMarks, chosen}
use Rattle.hlc_figures.specs.Columns.{AreColumnsOf}
use Rattle.hlc_figures.specs.Content.{Content, clock_events_of}
use Rattle.hlc_figures.specs.Figure.{next_of}
use Rattle.hlc_figures.specs.Rows.{rows_in}
use Rattle.hlc_figures.specs.declared.rows.Row.{Row}
use Rattle.hlc_figures.specs.declared.rows.Row.TheVariants.{Between, Chained, Event}
use Rattle.hlc_svg.specs.declared.frame.Frame.{Frame}
use Rattle.hlc_figures.specs.declared.scene.Scene.{Scene}

-- the event at e is one of the range
pub record IsDrawn (frame : Frame) (e : ℕ) : Type 0 where
  pub from : frame.first ≤ e
  pub before : e < frame.end

-- the events of the range exist, those of the chain are marked, and it is known how the chain goes on
pub record IsMarked (c : Content) (s : Scene) : Type 0 where
  pub exist : s.frame.end ≤ length c.events
  pub marks : AreMarks (chosen (clock_events_of c) c.stamps s.explained) s.frame s.marks.now
  pub next : place_of s.next ≡ next_of c s.explained s.frame

-- a row can be drawn: one of an event of such a range, or of events that exist
abbrev pub IsRowOf : Content → Scene → Row → Type 0
IsRowOf c s (Event e) = IsMarked c s × IsDrawn s.frame e.0
IsRowOf c s (Chained stop) = StopExists c stop
IsRowOf c s (Between gap) = Unit {0}

-- each row can be drawn, the events of the range exist, it is known where the columns begin, and the lanes are of nodes
pub record IsScene (c : Content) (s : Scene) : Type 0 where
  pub rows : All (IsRowOf c s) (rows_in s.rows.now)
  pub exist : s.frame.end ≤ length c.events
  pub columns : AreColumnsOf c s.frame s.columns.now
  pub lanes : All (λ node. node < c.nodes) s.lanes.now
