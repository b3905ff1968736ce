-- The picture of a history.
use Rattle.std.specs.Prelude.{◌↔◌, ℕ, ◌==◌, ◌++◌, false, true, List, codes, decimal, if◌then◌else◌}
use Rattle.hlc_stamp.specs.declared.id.EventId.{EventId}
use Rattle.hlc_arena.specs.Arena.{IsWellFormed}
use Rattle.hlc_arena.specs.History.{History, StampedEvent, causality_of, event_at, stamp_at, stamps_of}
use Rattle.hlc_causality.specs.declared.receives.Receives.TheVariants.{Tick}
use Rattle.hlc_causality.specs.Chain.{IsChainOf, IsForcing}
use Rattle.hlc_causality.specs.ClockChain.{IsClockChainOf, IsClockForcing}
use Rattle.hlc_causality.specs.ReceiveEvents.{plain_rules}
use Rattle.hlc_diagram.specs.ChainPicture.{chain_picture_of}
use Rattle.hlc_diagram.specs.Content.{Content, NodesExist, SendsComeFirst, clock_events_of}
use Rattle.hlc_diagram.specs.Numbers.{digits_of, no_digits, stamp_text, stamp_width}
use Rattle.hlc_diagram.specs.Picture.{Picture, picture_of, picture_with}
use Rattle.hlc_svg.specs.declared.look.Form.TheVariants.{Pill}
use Rattle.hlc_diagram.specs.declared.undelivered.Undelivered.{Undelivered}
use Rattle.hlc_diagram.specs.declared.view.View.{View}
use Rattle.hlc_picture.specs.What.{what_at, what_text}
use Rattle.hlc_picture.specs.declared.pictured_history.TheConstants.{LEGEND}
use Rattle.hlc_picture.specs.declared.what.TheConstants.{WIDTH}

-- the columns: the stamp, what the clock read, and what happened
abbrev pub heading_at : (column : ℕ) → List ℕ
heading_at column = if column == 0 then codes "stamp" else if column == 1 then codes "clock" else codes "event"

-- the cell of an event in a column, and how many characters it has, or may have at most
abbrev pub cell_at : List StampedEvent → (e column : ℕ) → List ℕ
cell_at events e column =
    if column == 0 then stamp_text no_digits (stamp_at events e) else if column == 1 then decimal (event_at events e).reading else what_text (what_at events e)

abbrev pub width_at : List StampedEvent → (e column : ℕ) → ℕ
width_at events e column =
    if column == 0 then stamp_width no_digits (stamp_at events e) else if column == 1 then digits_of (event_at events e).reading else WIDTH

-- what a diagram shows of a history: receives tick and no event has a rule of its own, each node has a lane, events have the numbers of their places,
-- and all look alike
abbrev pub content_of : History → Content
content_of h = record {
  rules = plain_rules Tick;
  nodes = h.nodes;
  every_lane = true;
  events = causality_of h.events;
  stamps = stamps_of h.events;
  legend = LEGEND.now;
  whole_name = λ node. codes "node " ++ decimal node;
  name = λ node. codes "node " ++ decimal node;
  number = λ e. e;
  shown = λ e. e;
  event = decimal;
  in_order = true;
  look = λ e. record { form = Pill; is_ringed = false };
  columns = 3;
  heading = heading_at;
  cell = cell_at h.events;
  cell_width = width_at h.events;
  fact = λ e column. heading_at column ++ (codes ": " ++ cell_at h.events e column);
}

-- the picture of a history
abbrev pub drawn : History → View → Picture
drawn h view = picture_of (content_of h) view

-- and the one with messages that didn't arrive
abbrev pub drawn_with : History → View → List Undelivered → Picture
drawn_with h view undelivered = picture_with (content_of h) view undelivered

-- the picture of the chain of an event alone
abbrev pub drawn_chain : History → EventId → Picture
drawn_chain h e = chain_picture_of (content_of h) e

-- in a history each send comes before its deliveries
abbrev pub HistoriesSendFirst : Type 0
HistoriesSendFirst = (h : History) → IsWellFormed h → SendsComeFirst (content_of h)

-- and its events happen at its nodes
abbrev pub HistoriesHaveTheirNodes : Type 0
HistoriesHaveTheirNodes = (h : History) → IsWellFormed h → NodesExist (content_of h)

-- and each event ticks from its reading on, so that by floors and ticks forcing events and chains are those of the history
abbrev pub HistoriesHaveTheirForcing : Type 0
HistoriesHaveTheirForcing = (h : History) (d f : ℕ) →
    IsForcing (causality_of h.events) (stamps_of h.events) d f ↔ IsClockForcing (clock_events_of (content_of h)) (content_of h).stamps d f

abbrev pub HistoriesHaveTheirChains : Type 0
HistoriesHaveTheirChains = (h : History) (e : ℕ) (chain : List ℕ) →
    IsChainOf (causality_of h.events) (stamps_of h.events) e chain ↔ IsClockChainOf (clock_events_of (content_of h)) (content_of h).stamps e chain
