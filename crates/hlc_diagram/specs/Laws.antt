-- The laws of pictures, in a reader's words.
use Rattle.std.specs.Prelude.{◌≡◌, ◌↔◌, ◌⊎◌, ℕ, ◌+◌, ◌*◌, ◌==◌, ◌<◌, ◌≤◌, false, true, Contains, IsTrue, List, Some, None, count_by, length, map}
use Rattle.std.specs.List.{filter_map}
use Rattle.hlc_stamp.specs.declared.id.EventId.{EventId}
use Rattle.hlc_causality.specs.Causality.{IsSendOf}
use Rattle.hlc_causality.specs.Places.{places_below}
use Rattle.hlc_causality.specs.ClockChain.{IsClockChainOf, IsClockForcing}
use Rattle.hlc_figures.specs.Chosen.{IsMissing}
use Rattle.hlc_diagram.specs.Layout.{lanes_in}
use Rattle.hlc_figures.specs.Content.{Content, NodesExist, SendsComeFirst, clock_events_of, node_at}
use Rattle.hlc_figures.specs.Figure.{side_distance, turn_distance}
use Rattle.hlc_figures.specs.Lanes.{lane_at}
use Rattle.hlc_svg.specs.Frame.{x_of, y_of}
use Rattle.hlc_svg.specs.Shapes.{reach_of}
use Rattle.hlc_svg.specs.Path.{arrow_end, arrow_start, course_of, path_of}
use Rattle.hlc_figures.specs.FigureText.{Figure, NamedLane}
use Rattle.hlc_diagram.specs.Picture.{Picture, picture_of}
use Rattle.hlc_figures.specs.DrawnRow.{figure_in}
use Rattle.hlc_figures.specs.Row.{row_at}
use Rattle.hlc_figures.specs.Title.{title_text}
use Rattle.hlc_svg.specs.declared.frame.TheConstants.{ROW, TOP}
use Rattle.hlc_svg.specs.declared.arrow.Arrow.{Arrow}
use Rattle.hlc_svg.specs.declared.dot.Dot.{Dot}
use Rattle.hlc_svg.specs.declared.shapes.End.{End}
use Rattle.hlc_svg.specs.declared.shapes.Link.{Link}
use Rattle.hlc_svg.specs.declared.shapes.Point.{Point}
use Rattle.hlc_diagram.specs.declared.view.View.{View}
use Rattle.hlc_svg.specs.Clear.{KeepsClear, NeverRises}
use Rattle.hlc_svg.specs.Meeting.{LieApart}

-- what is drawn of the events of a picture; the dots, the arrows and the lines along lanes
abbrev pub figures_in : Picture → List Figure
figures_in p = filter_map figure_in p.rows

abbrev pub dots_in : Picture → List Dot
dots_in p = map (λ f. f.dot) (figures_in p)

abbrev pub arrows_in : Picture → List Arrow
arrows_in p = filter_map (λ f. f.arrow) (figures_in p)

abbrev pub links_in : Picture → List Link
links_in p = filter_map (λ f. f.link) (figures_in p)

-- the event at e is one of the range
pub record IsInRange (c : Content) (view : View) (e : ℕ) : Type 0 where
  pub exists : e < length c.events
  pub from : view.first.0 ≤ e
  pub to : e ≤ view.last.0

-- each event of the range has exactly one dot
abbrev pub EachEventHasOneDot : Type 0
EachEventHasOneDot = (c : Content) (view : View) (e : ℕ) → IsInRange c view e → count_by (λ dot. dot.event.0 == e) (dots_in (picture_of c view)) ≡ 1

-- a dot is that of such an event, stands on the lane of its node and in its row, and has its number, the one that is shown of it, and its look
pub record IsDotOfEvent (c : Content) (view : View) (dot : Dot) : Type 0 where
  pub in_range : IsInRange c view dot.event.0
  pub lane : dot.at.x ≡ x_of (picture_of c view).frame (lane_at c (lanes_in c view) dot.event.0)
  pub row : dot.at.y ≡ y_of (picture_of c view).frame dot.event.0
  pub number : dot.number ≡ c.number dot.event.0
  pub shown : dot.shown ≡ c.shown dot.event.0
  pub look : dot.look ≡ c.look dot.event.0

abbrev pub DotsAreOfEvents : Type 0
DotsAreOfEvents = (c : Content) (view : View) (dot : Dot) → Contains (dots_in (picture_of c view)) dot → IsDotOfEvent c view dot

-- what is said of one picture, and so of those of views and of chains: titles and rows are of the events of the dots
abbrev pub TitlesAreOfTheDotsIn : Content → Picture → Type 0
TitlesAreOfTheDotsIn c p = (f : Figure) → Contains (figures_in p) f →
    (f.title ≡ title_text c f.dot.event.0) × (f.row ≡ row_at c p.frame f.dot.at.y f.dot.event.0)

-- the title of a dot, and the row beside it, are those of its event
abbrev pub TitlesAreOfTheDots : Type 0
TitlesAreOfTheDots = (c : Content) (view : View) → TitlesAreOfTheDotsIn c (picture_of c view)

-- time runs down: the dot of a later event stands lower
abbrev pub TimeRunsDown : Type 0
TimeRunsDown = (c : Content) (view : View) (a b : Dot) → Contains (dots_in (picture_of c view)) a → Contains (dots_in (picture_of c view)) b →
    a.event.0 < b.event.0 → a.at.y < b.at.y

-- no two dots stand in one place
abbrev pub NoTwoDotsInOnePlace : Type 0
NoTwoDotsInOnePlace = (c : Content) (view : View) (a b : Dot) →
    Contains (dots_in (picture_of c view)) a → Contains (dots_in (picture_of c view)) b → a.at ≡ b.at → a ≡ b

-- a point lies so far beside the middle of the dot of an event
pub record IsBeside (dot : Dot) (reach : ℕ) (e : EventId) (point : Point) : Type 0 where
  pub event : dot.event ≡ e
  pub level : point.y ≡ dot.at.y
  pub side : (point.x ≡ dot.at.x + reach) ⊎ (point.x + reach ≡ dot.at.x)

-- at a side of the dot, or of the ring around it, if it has one
abbrev pub IsAtDot : Picture → EventId → Point → Type 0
IsAtDot p e point = (dot : Dot) × Contains (dots_in p) dot × IsBeside dot dot.half e point

abbrev pub IsAtRing : Picture → EventId → Point → Type 0
IsAtRing p e point = (dot : Dot) × Contains (dots_in p) dot × IsBeside dot (reach_of dot.look dot.half) e point

-- each delivery of the range whose send is in the range has exactly one arrow
abbrev pub EachDeliveryHasOneArrow : Type 0
EachDeliveryHasOneArrow = (c : Content) (view : View) (s f : ℕ) → IsSendOf c.events s f → IsInRange c view s → IsInRange c view f →
    count_by (λ arrow. arrow.delivered.0 == f) (arrows_in (picture_of c view)) ≡ 1

-- an arrow runs from the dot of a send to the dot of a delivery of it, where its head ends at the ring, if there is one; downwards
pub record IsArrowOfDelivery (c : Content) (p : Picture) (arrow : Arrow) : Type 0 where
  pub delivers : IsSendOf c.events arrow.sent.0 arrow.delivered.0
  pub from : IsAtDot p arrow.sent (arrow_start arrow.route)
  pub to : IsAtRing p arrow.delivered (arrow_end arrow.route)
  pub down : (arrow_start arrow.route).y < (arrow_end arrow.route).y
  pub falls : NeverRises (path_of arrow.route)

abbrev pub ArrowsAreOfDeliveries : Type 0
ArrowsAreOfDeliveries = (c : Content) (view : View) (arrow : Arrow) → SendsComeFirst c → Contains (arrows_in (picture_of c view)) arrow →
    IsArrowOfDelivery c (picture_of c view) arrow

-- the arrows over the upper border, and over the lower one
abbrev pub entering_in : Picture → List End
entering_in p = filter_map (λ f. f.entering) (figures_in p)

abbrev pub leaving_in : Picture → List End
leaving_in p = filter_map (λ f. f.leaving) (figures_in p)

-- so of arrows that keep clear of dots
abbrev pub ArrowsKeepClearIn : Picture → Type 0
ArrowsKeepClearIn p = (arrow : Arrow) (dot : Dot) → Contains (arrows_in p) arrow → Contains (dots_in p) dot → KeepsClear dot (path_of arrow.route)

-- no arrow comes nearer to a dot than half its width and height: neither one between two dots, which it only touches, nor one over a border
abbrev pub ArrowsKeepClear : Type 0
ArrowsKeepClear = (c : Content) (view : View) → ArrowsKeepClearIn (picture_of c view)

abbrev pub BorderArrowsKeepClear : Type 0
BorderArrowsKeepClear = (c : Content) (view : View) (end : End) (dot : Dot) →
    Contains (entering_in (picture_of c view)) end ⊎ Contains (leaving_in (picture_of c view)) end →
    Contains (dots_in (picture_of c view)) dot → KeepsClear dot (course_of end)

-- an arrow to the lane that it comes from, and one over a border at a dot of that lane, have no more than points in common
abbrev pub OwnArrowsLieApart : Type 0
OwnArrowsLieApart = (c : Content) (view : View) (arrow : Arrow) (end : End) (dot : Dot) → Contains (arrows_in (picture_of c view)) arrow →
    arrow.route.from ≡ arrow.route.to → Contains (entering_in (picture_of c view)) end ⊎ Contains (leaving_in (picture_of c view)) end →
    Contains (dots_in (picture_of c view)) dot → dot.at.y ≡ end.y → dot.at.x ≡ x_of (picture_of c view).frame arrow.route.from.0 →
    LieApart (path_of arrow.route) (course_of end)

-- of two arrows, one turns a row higher than the other, or they are the same
abbrev pub TurnInRows : List End → Type 0
TurnInRows ends = (a b : End) → Contains ends a → Contains ends b → (a ≡ b) ⊎ ((a.y + ROW ≤ b.y) ⊎ (b.y + ROW ≤ a.y))

-- so it is of the arrows over each border: so their heads don't meet, each of which stands within half a row of where its arrow turns
abbrev pub BorderArrowsTurnInRows : Type 0
BorderArrowsTurnInRows = (c : Content) (view : View) → TurnInRows (entering_in (picture_of c view)) × TurnInRows (leaving_in (picture_of c view))

-- and of lanes that are of dots, and dots that stand on lanes
abbrev pub LanesAreOfDotsIn : Content → Picture → Type 0
LanesAreOfDotsIn c p = (lane : NamedLane) → c.every_lane ≡ false → Contains p.lanes lane →
    (dot : Dot) × Contains (dots_in p) dot × (node_at c dot.event.0 ≡ lane.lane.node.0) × (dot.at.x ≡ lane.lane.x)

abbrev pub DotsStandOnLanesIn : Content → Picture → Type 0
DotsStandOnLanesIn c p = (dot : Dot) → NodesExist c → Contains (dots_in p) dot →
    (lane : NamedLane) × Contains p.lanes lane × (lane.lane.node.0 ≡ node_at c dot.event.0) × (dot.at.x ≡ lane.lane.x)
    × (lane.name ≡ c.name (node_at c dot.event.0))

-- unless each node has a lane, the node of a lane has a dot on it
abbrev pub LanesAreOfDots : Type 0
LanesAreOfDots = (c : Content) (view : View) → LanesAreOfDotsIn c (picture_of c view)

-- and each dot stands on the lane of its node, which has its name
abbrev pub DotsStandOnLanes : Type 0
DotsStandOnLanes = (c : Content) (view : View) → DotsStandOnLanesIn c (picture_of c view)

-- if each node has a lane, the lanes are those of the nodes, in order
abbrev pub EachNodeHasItsLane : Type 0
EachNodeHasItsLane = (c : Content) (view : View) → c.every_lane ≡ true →
    map (λ lane. lane.lane.node.0) (picture_of c view).lanes ≡ places_below c.nodes

-- the lanes of two nodes are apart by more than a dot
abbrev pub LanesAreApart : Type 0
LanesAreApart = (c : Content) (view : View) (a b : NamedLane) → Contains (picture_of c view).lanes a → Contains (picture_of c view).lanes b →
    a.lane.node.0 < b.lane.node.0 → a.lane.x + 2 * (picture_of c view).frame.half < b.lane.x

-- an arrow turns on the left of a dot if the node of its other end comes before the dot's own, whether that has a lane or not, and else on the right
abbrev pub TurnsTowards : Content → (other : ℕ) → Dot → End → Type 0
TurnsTowards c other dot end =
    (node_at c other < node_at c dot.event.0 → end.turn_x + turn_distance end.border dot.half ≡ dot.at.x)
    × (node_at c dot.event.0 ≤ node_at c other → end.turn_x ≡ dot.at.x + turn_distance end.border dot.half)

-- it comes in to a side of the dot or of the ring around it, or leaves from a side of the dot
abbrev pub BeginsBeside : Dot → End → Type 0
BeginsBeside dot end =
    (end.x ≡ dot.at.x + side_distance end.border dot.look dot.half) ⊎ (end.x + side_distance end.border dot.look dot.half ≡ dot.at.x)

-- an arrow runs between a border and the row of the dot of e, on the side of the event at its other end, and has that one's number
pub record CrossesBorder (c : Content) (p : Picture) (end : End) (border e other : ℕ) : Type 0 where
  pub at_border : end.border_y ≡ border
  pub row : (dot : Dot) × Contains (dots_in p) dot × (dot.event.0 ≡ e) × (dot.at.y ≡ end.y) × TurnsTowards c other dot end × BeginsBeside dot end
  pub event : end.event.0 ≡ other
  pub number : end.number ≡ c.shown other

-- a delivery is of the range and its send comes before it; or a send is of the range and a delivery of it comes after that
pub record ComesIn (c : Content) (view : View) (s f : ℕ) : Type 0 where
  pub sends : IsSendOf c.events s f
  pub before : s < view.first.0
  pub inside : IsInRange c view f

pub record Leaves (c : Content) (view : View) (s f : ℕ) : Type 0 where
  pub sends : IsSendOf c.events s f
  pub after : view.last.0 < f
  pub inside : IsInRange c view s

-- what comes in has an arrow over the upper border, with the number of the send, and such an arrow is of what comes in
abbrev pub MessagesComeIn : Type 0
MessagesComeIn = (c : Content) (view : View) (s f : ℕ) → ComesIn c view s f →
    (end : End) × Contains (entering_in (picture_of c view)) end × CrossesBorder c (picture_of c view) end TOP f s

abbrev pub ArrowsComeIn : Type 0
ArrowsComeIn = (c : Content) (view : View) (end : End) → SendsComeFirst c → Contains (entering_in (picture_of c view)) end →
    (s f : ℕ) × ComesIn c view s f × CrossesBorder c (picture_of c view) end TOP f s

-- a send from which something leaves has an arrow over the lower border, with the number of a delivery there, and such an arrow is of what leaves
abbrev pub MessagesLeave : Type 0
MessagesLeave = (c : Content) (view : View) (s f : ℕ) → SendsComeFirst c → Leaves c view s f →
    (end : End) × Contains (leaving_in (picture_of c view)) end
    × ((g : ℕ) × Leaves c view s g × CrossesBorder c (picture_of c view) end (picture_of c view).frame.height s g)

abbrev pub ArrowsLeave : Type 0
ArrowsLeave = (c : Content) (view : View) (end : End) → SendsComeFirst c → Contains (leaving_in (picture_of c view)) end →
    (s f : ℕ) × Leaves c view s f × CrossesBorder c (picture_of c view) end (picture_of c view).frame.height s f

-- if an event is explained, the marked dots are exactly those of the events of its chain
abbrev pub MarkedAreTheChain : Type 0
MarkedAreTheChain = (c : Content) (view : View) (e : EventId) (chain : List ℕ) (dot : Dot) → view.explained ≡ Some e → e.0 < length c.events →
    IsClockChainOf (clock_events_of c) c.stamps e.0 chain → Contains (dots_in (picture_of c view)) dot → IsTrue dot.is_marked ↔ Contains chain dot.event.0

-- a thick line comes to a dot: along its lane, as an arrow from another dot, or as one over the upper border
abbrev pub HasThickLine : Picture → Dot → Type 0
HasThickLine p dot =
    ((link : Link) × Contains (links_in p) link × (link.x ≡ dot.at.x) × (link.to ≡ dot.at.y)) ⊎
    (((arrow : Arrow) × Contains (arrows_in p) arrow × (arrow.delivered ≡ dot.event) × IsTrue arrow.is_marked) ⊎
    ((end : End) × Contains (entering_in p) end × (end.y ≡ dot.at.y) × IsTrue end.is_marked))

-- each step of the chain to an event of the range has one, even if it comes from above the range
abbrev pub StepsAreThick : Type 0
StepsAreThick = (c : Content) (view : View) (e : EventId) (chain : List ℕ) (d : ℕ) (dot : Dot) → view.explained ≡ Some e → e.0 < length c.events →
    IsClockChainOf (clock_events_of c) c.stamps e.0 chain → Contains chain dot.event.0 →
    IsClockForcing (clock_events_of c) c.stamps d dot.event.0 → Contains (dots_in (picture_of c view)) dot → HasThickLine (picture_of c view) dot

-- and a step by a message from a send of the range to an event after it has one that leaves over the lower border, with the number of that event
abbrev pub StepsGoOn : Type 0
StepsGoOn = (c : Content) (view : View) (e : EventId) (chain : List ℕ) (s f : ℕ) → SendsComeFirst c → view.explained ≡ Some e → e.0 < length c.events →
    IsClockChainOf (clock_events_of c) c.stamps e.0 chain → Contains chain f → IsClockForcing (clock_events_of c) c.stamps s f → Leaves c view s f →
    (end : End) × Contains (leaving_in (picture_of c view)) end × CrossesBorder c (picture_of c view) end (picture_of c view).frame.height s f
    × IsTrue end.is_marked

-- if no event is explained, or one that isn't there, none is marked
abbrev pub NoneIsMarked : Type 0
NoneIsMarked = (c : Content) (view : View) (dot : Dot) → (view.explained ≡ None) ⊎ IsMissing c.events view.explained →
    Contains (dots_in (picture_of c view)) dot → ¬ IsTrue dot.is_marked
