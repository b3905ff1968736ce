-- What stands before the lanes.
use Rattle.std.specs.Prelude.{ℕ, ◌+◌, ◌-◌, ◌==◌, ◌++◌, List, [], ◌∷◌, Option, Some, None, codes, decimal, if◌then◌else◌, length, nat_lt}
use Rattle.std.specs.List.{flat_map}
use Rattle.hlc_stamp.specs.declared.id.EventId.{EventId}
use Rattle.hlc_figures.specs.Chosen.{chosen}
use Rattle.hlc_figures.specs.Columns.{column_x}
use Rattle.hlc_figures.specs.Content.{Content, clock_events_of}
use Rattle.hlc_figures.specs.Row.{Cell}
use Rattle.hlc_figures.specs.declared.caption.Range.{Range}
use Rattle.hlc_figures.specs.declared.caption.Range.TheVariants.{Events, NoEvent, Rows}
use Rattle.hlc_svg.specs.declared.frame.Frame.{Frame}
use Rattle.hlc_figures.specs.declared.head.TheConstants.{LEGEND, STYLE}
use Rattle.hlc_svg.specs.declared.frame.TheConstants.{HEADING_Y}

-- that there is no event, and that a chain is marked, and how long it is
abbrev pub missing_text : EventId → List ℕ
missing_text e = codes " There is no event " ++ (decimal e.0 ++ codes ".")

abbrev pub length_text : ℕ → List ℕ
length_text n = codes " on, length " ++ (decimal n ++ codes ".")

unfoldable pub chain_note : Content → (e origin n : ℕ) → List ℕ
chain_note c e origin n = codes " Marked: the chain of event " ++ (c.event e ++ (codes ", from event " ++ (c.event origin ++ length_text n)))

-- an event is explained by its chain; if that is empty, there is no such event
abbrev pub note_by : Content → EventId → List ℕ → List ℕ
note_by c e [] = missing_text e
note_by c e (origin ∷ rest) = chain_note c e.0 origin (length (origin ∷ rest))

-- what a picture says of what is explained
abbrev pub note_of : Content → Option EventId → List ℕ
note_of c None = []
note_of c (Some e) = note_by c e (chosen (clock_events_of c) c.stamps (Some e))

-- the numbers of the first and the last event that are drawn or, if events aren't in the order of their numbers, their rows, from 1
abbrev pub range_of : Content → Frame → Range
range_of c frame =
    if nat_lt frame.first frame.end then
    (if c.in_order then Events (c.number frame.first) (c.number (frame.end - 1)) else Rows (frame.first + 1) frame.end) else NoEvent

-- which events are drawn
abbrev pub range_text : Range → List ℕ
range_text NoEvent = codes "No event"
range_text (Events first last) = codes "Events " ++ (decimal first ++ (codes " to " ++ decimal last))
range_text (Rows first last) = codes "Rows " ++ (decimal first ++ (codes " to " ++ decimal last))

-- of how many
abbrev pub drawn_text : Range → (total : ℕ) → List ℕ
drawn_text range total = range_text range ++ (codes " of " ++ (decimal total ++ codes "."))

-- and what is explained
unfoldable pub caption_of : Content → Option EventId → Frame → List ℕ
caption_of c explained frame = drawn_text (range_of c frame) (length c.events) ++ note_of c explained

-- the element that all others stand in
unfoldable pub root_text : Frame → List ℕ
root_text frame =
    codes "<svg xmlns=\"http://www.w3.org/2000/svg\" class=\"hlc\" width=\"" ++ (decimal frame.width ++ (codes "\" height=\""
    ++ (decimal frame.height ++ (codes "\" viewBox=\"0 0 " ++ (decimal frame.width ++ (codes " "
    ++ (decimal frame.height ++ codes "\" xml:space=\"preserve\">\n")))))))

-- the title and the description
abbrev pub nodes_word : ℕ → List ℕ
nodes_word count = if count == 1 then codes "node" else codes "nodes"

unfoldable pub description_begins : Frame → (caption : List ℕ) → List ℕ
description_begins frame caption =
    codes "<title>Space-time diagram of " ++ (decimal frame.nodes ++ (codes " " ++ (nodes_word frame.nodes ++ (codes "</title>\n<desc>" ++ (caption ++ (codes " "
    ++ (LEGEND.now ++ codes " ")))))))

-- that some nodes have no lane, if there are any
abbrev pub laneless_text : Frame → List ℕ
laneless_text frame = if nat_lt frame.lanes frame.nodes then codes " Nodes without a row have no lane." else []

unfoldable pub description_text : Frame → (caption : List ℕ) → (legend : List ℕ) → List ℕ
description_text frame caption legend = description_begins frame caption ++ (legend ++ (laneless_text frame ++ codes "</desc>\n"))

-- the ground and the caption
unfoldable pub ground_text : Frame → (caption : List ℕ) → List ℕ
ground_text frame caption =
    codes "<rect class=\"w\" width=\"" ++ (decimal frame.width ++ (codes "\" height=\"" ++ (decimal frame.height
    ++ (codes "\"/>\n<text class=\"h\" x=\"24\" y=\"22\">" ++ (caption ++ codes "</text>\n")))))

-- the headings of the columns
abbrev pub heading_of : Content → Frame → (column : ℕ) → Cell
heading_of c frame column = record { x = column_x c frame column; y = HEADING_Y; text = c.heading column }

abbrev pub heading_begins : (x y : ℕ) → List ℕ
heading_begins x y = codes "<text class=\"h\" x=\"" ++ (decimal x ++ (codes "\" y=\"" ++ (decimal y ++ codes "\">")))

unfoldable pub heading_text : Cell → List ℕ
heading_text cell = heading_begins cell.x cell.y ++ (cell.text ++ codes "</text>")

abbrev pub headings_text : List Cell → List ℕ
headings_text cells = flat_map heading_text cells ++ codes "\n"

unfoldable pub head_text : Frame → (caption : List ℕ) → (legend : List ℕ) → (headings : List Cell) → List ℕ
head_text frame caption legend headings =
    root_text frame ++ (description_text frame caption legend ++ (STYLE.now ++ (ground_text frame caption ++ headings_text headings)))
