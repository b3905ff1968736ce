-- The picture of a log.
use Rattle.std.specs.Prelude.{◌≡◌, ℕ, List, Option, false, length, option_map}
use Rattle.hlc_causality.specs.declared.receives.Receives.TheVariants.{Tick}
use Rattle.hlc_causes.specs.declared.answers.Finding.{Finding}
use Rattle.hlc_diagram.specs.Content.{Content}
use Rattle.hlc_diagram.specs.CutLabel.{cut_text}
use Rattle.hlc_diagram.specs.Label.{label_text}
use Rattle.hlc_diagram.specs.ChainPicture.{chain_picture_of}
use Rattle.hlc_diagram.specs.Picture.{Picture, picture_of}
use Rattle.hlc_svg.specs.declared.numbers.FirstDigits.{FirstDigits}
use Rattle.hlc_diagram.specs.declared.view.View.{View}
use Rattle.hlc_stamp.specs.declared.id.EventId.{EventId}
use Rattle.hlc_log.specs.CausalOrder.{place_at}
use Rattle.hlc_log.specs.OrderSkeleton.{rules_in}
use Rattle.hlc_log.specs.declared.log_event.LogEvent.{LogEvent}
use Rattle.hlc_ordered_log.specs.InOrder.{IsInOrder, LogInOrder, event_in_order, line_in, skeleton_of}
use Rattle.hlc_log_text.specs.Files.{location_of, text_in}
use Rattle.hlc_log_text.specs.Labels.{label_at}
use Rattle.hlc_log_text.specs.LogText.{name_of}
use Rattle.hlc_log_text.specs.declared.file_mark.FileMark.{FileMark}
use Rattle.hlc_log_text.specs.declared.location.Location.{Location}
use Rattle.hlc_open_log.specs.Opened.{OpenedLog}
use Rattle.hlc_log_picture.specs.Cells.{cell_text, cell_width, fact_text, heading_at}
use Rattle.hlc_log_picture.specs.Judged.{AreEventFindings, event_finding_at}
use Rattle.hlc_log_picture.specs.Legend.{legend_text}
use Rattle.hlc_log_picture.specs.Looks.{look_of}
use Rattle.hlc_log_picture.specs.SharedDigits.{first_digits_of}
use Rattle.hlc_log_picture.specs.StampOrder.{IsInStampOrder}
use Rattle.hlc_log_picture.specs.declared.event_finding.EventFinding.{EventFinding}
use Rattle.hlc_svg.specs.declared.frame.TheConstants.{NAME_ROOM}
use Rattle.hlc_log_picture.specs.declared.cells.TheConstants.{WHOLE_ROOM}
use Rattle.hlc_log_picture.specs.declared.places.TheConstants.{FILE_ROOM}

-- a log to be drawn: its events in the order of the rows, with the files in which their records stand, the names of the nodes, the labels, and a finding
-- on each event
pub record DrawnLog : Type 0 where
  pub log : LogInOrder
  pub files : List FileMark
  pub nodes : List (List ℕ)
  pub labels : List (ℕ × List ℕ)
  pub findings : List EventFinding

-- the parts that a log to be drawn is kept in agree
pub record ArePictured (drawn : DrawnLog) (digits : FirstDigits) : Type 0 where
  pub ordered : IsInOrder drawn.log
  pub lanes : drawn.log.nodes ≡ length drawn.nodes
  pub judged : length drawn.findings ≡ length drawn.log.events
  pub first : digits ≡ first_digits_of drawn.log

-- the event in a row, what is found of its stamp, and its label
abbrev pub event_of_row : DrawnLog → ℕ → LogEvent
event_of_row drawn k = event_in_order drawn.log.events drawn.log.order k

abbrev pub finding_of_row : DrawnLog → ℕ → Option Finding
finding_of_row drawn k = (event_finding_at drawn.findings k).finding

abbrev pub label_of_row : DrawnLog → ℕ → Option (List ℕ)
label_of_row drawn k = label_at drawn.labels (place_at drawn.log.order k)

-- where the record of the event in a row begins: on which line of which file
abbrev pub location_of_row : DrawnLog → ℕ → Location
location_of_row drawn k = location_of drawn.files (line_in drawn.log k)

-- how a text names an event: LINE or NAME:LINE, with as much of the name as there is room for
abbrev pub location_label : Location → List ℕ
location_label location = text_in (option_map (label_text FILE_ROOM) location.file) location.line

-- what a diagram shows of a log: nodes have a lane if an event of theirs is drawn, lanes have the names of nodes, and events the numbers of the lines
-- on which their records begin, of which the one in its file is shown. The digits with which all stamps and readings of the log begin stand in the headings, whatever part of it is drawn.
abbrev pub content_of : DrawnLog → Content
content_of drawn = record {
  rules = rules_in drawn.log.receives drawn.log.events drawn.log.order;
  nodes = length drawn.nodes;
  every_lane = false;
  events = skeleton_of drawn.log;
  stamps = drawn.log.least;
  legend = legend_text;
  whole_name = λ node. label_text WHOLE_ROOM (name_of drawn.nodes node);
  name = λ node. cut_text NAME_ROOM (name_of drawn.nodes node);
  number = line_in drawn.log;
  shown = λ k. (location_of_row drawn k).line;
  event = λ k. location_label (location_of_row drawn k);
  in_order = false;
  look = λ k. look_of (event_finding_at drawn.findings k);
  columns = 5;
  heading = heading_at (first_digits_of drawn.log);
  cell = λ k. cell_text (first_digits_of drawn.log) (event_of_row drawn k) (finding_of_row drawn k) (label_of_row drawn k);
  cell_width = λ k. cell_width (first_digits_of drawn.log) (event_of_row drawn k) (label_of_row drawn k);
  fact = λ k. fact_text (event_of_row drawn k) (finding_of_row drawn k) (label_of_row drawn k);
}

-- the picture of a log
abbrev pub drawn_log : DrawnLog → View → Picture
drawn_log drawn view = picture_of (content_of drawn) view

-- the picture of the chain of the event in a row alone
abbrev pub drawn_log_chain : DrawnLog → (row : EventId) → Picture
drawn_log_chain drawn row = chain_picture_of (content_of drawn) row

-- an opened log is drawn: its events in a causal order, which is that of their least stamps if receives tick, with its names, its labels, and a finding
-- on each
pub record IsDrawnOf (opened : OpenedLog) (drawn : DrawnLog) : Type 0 where
  pub receives : drawn.log.receives ≡ opened.log.receives
  pub events : drawn.log.events ≡ opened.log.events
  pub files : drawn.files ≡ opened.files
  pub nodes : drawn.nodes ≡ opened.nodes
  pub labels : drawn.labels ≡ opened.labels
  pub in_order : IsInOrder drawn.log
  pub by_stamp : opened.log.receives ≡ Tick → IsInStampOrder drawn.log
  pub judged : AreEventFindings drawn.log opened.full drawn.findings
