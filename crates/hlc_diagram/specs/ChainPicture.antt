-- The picture of a chain alone.
use Rattle.std.specs.Prelude.{ℕ, ◌+◌, ◌*◌, List, [], ◌∷◌, Some, length}
use Rattle.hlc_stamp.specs.declared.id.EventId.{EventId}
use Rattle.hlc_figures.specs.ChainRows.{rows_of}
use Rattle.hlc_figures.specs.Chosen.{chosen}
use Rattle.hlc_diagram.specs.Layout.{frame_on}
use Rattle.hlc_diagram.specs.Picture.{Picture, picture_in}
use Rattle.hlc_figures.specs.Content.{Content, clock_events_of}
use Rattle.hlc_figures.specs.Lanes.{lanes_of}
use Rattle.hlc_svg.specs.declared.frame.Frame.{Frame}
use Rattle.hlc_svg.specs.declared.frame.TheConstants.{FIRST_ROW, ROW}
use Rattle.hlc_diagram.specs.declared.view.View.{View}

-- the view of all events from the first of a chain to its last one, or to one that isn't there
abbrev pub first_or : EventId → List ℕ → EventId
first_or e [] = e
first_or e (d ∷ chain) = record { 0 = d }

abbrev pub chain_view : EventId → List ℕ → View
chain_view e chain = record { first = first_or e chain; last = e; explained = Some e }

-- things stand where they do in the picture of that view, only on the lanes of the chain's nodes and in its rows
abbrev pub frame_around : Content → EventId → List ℕ → Frame
frame_around c e chain = record (frame_on c (chain_view e chain) (lanes_of c chain)) { height = FIRST_ROW + ROW * length (rows_of chain) }

-- the picture of the chain of an event has the rows of the chain
abbrev pub chain_picture_of : Content → EventId → Picture
chain_picture_of c e =
    let chain = chosen (clock_events_of c) c.stamps (Some e) in picture_in c (frame_around c e chain) (lanes_of c chain) (Some e) (rows_of chain) []
