-- The picture of an execution, and its text.
use Rattle.std.specs.Prelude.{ℕ, ◌++◌, List, [], Option, codes, map}
use Rattle.std.specs.List.{filter_map, flat_map}
use Rattle.std.specs.Io.KnownBytes.{Appends, Keeps, append_known}
use Rattle.hlc_stamp.specs.declared.id.EventId.{EventId}
use Rattle.hlc_causality.specs.Places.{places_below}
use Rattle.hlc_diagram.specs.Layout.{frame_of, lanes_in}
use Rattle.hlc_figures.specs.Content.{Content}
use Rattle.hlc_figures.specs.DrawnRow.{DrawnRow, drawn_row, layer_text}
use Rattle.hlc_diagram.specs.Cross.{NamedCross, cross_of, cross_text}
use Rattle.hlc_diagram.specs.Failed.{failed_in}
use Rattle.hlc_figures.specs.Head.{caption_of, head_text, heading_of}
use Rattle.hlc_figures.specs.Row.{Cell}
use Rattle.hlc_figures.specs.Rows.{event_rows, rows_in}
use Rattle.hlc_figures.specs.declared.layer.Layer.TheVariants.{Back, Front, Lines}
use Rattle.hlc_figures.specs.declared.rows.Row.{Row}
use Rattle.hlc_figures.specs.declared.scene.Scene.{Scene}
use Rattle.hlc_svg.specs.declared.frame.Frame.{Frame}
use Rattle.hlc_diagram.specs.declared.failed.Failed.{Failed}
use Rattle.hlc_diagram.specs.declared.undelivered.Undelivered.{Undelivered}
use Rattle.hlc_diagram.specs.declared.view.View.{View}
use Rattle.hlc_figures.specs.FigureText.{NamedLane, named_lane_of, named_lane_text}

-- a picture: where things stand, what is said of it, the headings of the columns, the lanes, what is drawn in each row, and the arrows of
-- messages that didn't arrive
pub record Picture : Type 0 where
  pub frame : Frame
  pub caption : List ℕ
  pub legend : List ℕ
  pub headings : List Cell
  pub lanes : List NamedLane
  pub rows : List DrawnRow
  pub crosses : List NamedCross

-- the picture of some rows, with messages that didn't arrive
abbrev pub picture_in : Content → Frame → (lanes : List ℕ) → (explained : Option EventId) → List Row → List Failed → Picture
picture_in c frame lanes explained rows failed = record {
  frame = frame;
  caption = caption_of c explained frame;
  legend = c.legend;
  headings = map (heading_of c frame) (places_below c.columns);
  lanes = map (named_lane_of c frame lanes) lanes;
  rows = map (drawn_row c explained frame lanes) rows;
  crosses = filter_map (cross_of c frame lanes) failed;
}

-- the picture of a scene
abbrev pub drawn_scene : Content → Scene → List Failed → Picture
drawn_scene c s failed = picture_in c s.frame s.lanes.now s.explained (rows_in s.rows.now) failed

-- the picture of a view has a row for each event of the range; with messages that didn't arrive, and without any
abbrev pub picture_with : Content → View → List Undelivered → Picture
picture_with c view undelivered =
    let frame = frame_of c view in
    picture_in c frame (lanes_in c view) view.explained (event_rows frame.first frame.end) (failed_in undelivered)

abbrev pub picture_of : Content → View → Picture
picture_of c view = picture_with c view []

-- the text of a picture
unfoldable pub picture_text : Picture → List ℕ
picture_text p =
    head_text p.frame p.caption p.legend p.headings ++ (flat_map (layer_text Back) p.rows ++ (flat_map named_lane_text p.lanes
    ++ (flat_map (layer_text Lines) p.rows ++ (flat_map cross_text p.crosses ++ (flat_map (layer_text Front) p.rows ++ codes "</svg>\n")))))

-- what a writer holds, if that is known, followed by what waits for the writer, grows by a text
abbrev pub GrowsBy : (before after : Option (List ℕ)) → (old new text : List ℕ) → Type 0
GrowsBy before after old new text = Appends (append_known before old) (append_known after new) text

-- these stay as they are together
abbrev pub KeepsText : (before after : Option (List ℕ)) → (old new : List ℕ) → Type 0
KeepsText before after old new = Keeps (append_known before old) (append_known after new)
