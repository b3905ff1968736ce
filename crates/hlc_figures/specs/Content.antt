-- What a diagram shows.
use Rattle.std.specs.Prelude.{◌≡◌, ℕ, ◌<◌, Bool, List, Some, length}
use Rattle.hlc_stamp.specs.Order.{Pair}
use Rattle.hlc_causality.specs.Causality.{Skeleton, skeleton_at}
use Rattle.hlc_causality.specs.ClockEvents.{ClockEvents}
use Rattle.hlc_causality.specs.ReceiveEvents.{ClockRules, clock_events}
use Rattle.hlc_svg.specs.declared.look.Look.{Look}

-- the rules of clocks; the nodes, whether each has a lane even if no event of it is drawn, and the events with the least stamps of such clocks; and
-- what is said of these: the whole name of each node, and as much of it as stands above its lane,
-- of each event its number, the one that is shown of it, how a text names it, and its look, and whether they stand in the order of their numbers;
-- and a row of cells for each, with the heading of
-- each column: of each cell the text, how many characters of that are seen, and what the title of a dot tells of it
pub record Content : Type 0 where
  pub rules : ClockRules
  pub nodes : ℕ
  pub every_lane : Bool
  pub events : Skeleton
  pub stamps : List Pair
  pub legend : List ℕ
  pub whole_name : ℕ → List ℕ
  pub name : ℕ → List ℕ
  pub number : ℕ → ℕ
  pub shown : ℕ → ℕ
  pub event : ℕ → List ℕ
  pub in_order : Bool
  pub look : ℕ → Look
  pub columns : ℕ
  pub heading : ℕ → List ℕ
  pub cell : (e column : ℕ) → List ℕ
  pub cell_width : (e column : ℕ) → ℕ
  pub fact : (e column : ℕ) → List ℕ

-- the events as the rules of these clocks read them
abbrev pub clock_events_of : Content → ClockEvents
clock_events_of c = clock_events c.rules c.events

-- the node at which an event happens
abbrev pub node_at : Content → ℕ → ℕ
node_at c e = (skeleton_at c.events e).node

-- the events happen at its nodes
abbrev pub NodesExist : Content → Type 0
NodesExist c = (e : ℕ) → e < length c.events → node_at c e < c.nodes

-- each delivery is of an earlier event
abbrev pub SendsComeFirst : Content → Type 0
SendsComeFirst c = (f s : ℕ) → f < length c.events → (skeleton_at c.events f).send ≡ Some s → s < f
