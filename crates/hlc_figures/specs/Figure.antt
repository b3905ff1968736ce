-- What is drawn of an event.
use Rattle.std.specs.Prelude.{Bool, ℕ, ◌+◌, ◌*◌, ◌/◌, ◌==◌, ◌&&◌, List, Option, Some, None, find, if◌then◌else◌, nat_le, nat_lt}
use Rattle.std.specs.Option.{option_and_then, option_or}
use Rattle.hlc_stamp.specs.declared.id.EventId.{EventId}
use Rattle.hlc_causality.specs.Causality.{skeleton_at}
use Rattle.hlc_causality.specs.FollowedChains.{is_event}
use Rattle.hlc_causality.specs.FollowedClockChains.{clock_forcing_of}
use Rattle.hlc_causality.specs.Neighbours.{deliveries_of}
use Rattle.hlc_figures.specs.Chosen.{is_marked, next_marked}
use Rattle.hlc_figures.specs.Content.{Content, clock_events_of, node_at}
use Rattle.hlc_figures.specs.Lanes.{lane_at}
use Rattle.hlc_figures.specs.Standing.{arrow_along, band_at, dot_at, stand_in}
use Rattle.hlc_svg.specs.Frame.{aside, x_of, y_of}
use Rattle.hlc_svg.specs.Shapes.{reach_of}
use Rattle.hlc_svg.specs.declared.frame.Frame.{Frame}
use Rattle.hlc_svg.specs.declared.frame.TheConstants.{TOP}
use Rattle.hlc_svg.specs.declared.arrow.Arrow.{Arrow}
use Rattle.hlc_svg.specs.declared.shapes.Band.{Band}
use Rattle.hlc_svg.specs.declared.dot.Dot.{Dot}
use Rattle.hlc_svg.specs.declared.look.Look.{Look}
use Rattle.hlc_svg.specs.declared.shapes.Border.{Border}
use Rattle.hlc_svg.specs.declared.shapes.Border.TheVariants.{Lower, Upper}
use Rattle.hlc_svg.specs.declared.shapes.End.{End}
use Rattle.hlc_svg.specs.declared.shapes.Link.{Link}

-- the forcing event of an event
abbrev pub forcing_at : Content → ℕ → Option ℕ
forcing_at c e = clock_forcing_of (clock_events_of c) c.stamps e

-- whether an event is marked, and the event with which the chain goes on after those that are drawn
abbrev pub marked_at : Content → Option EventId → ℕ → Bool
marked_at c explained e = is_marked (clock_events_of c) c.stamps explained e

abbrev pub next_of : Content → Option EventId → Frame → Option ℕ
next_of c explained frame = next_marked (clock_events_of c) c.stamps explained frame

-- a marked event has a band behind its row
abbrev pub band_of : Content → Option EventId → Frame → ℕ → Option Band
band_of c explained frame e = if marked_at c explained e then Some (band_at frame (stand_in frame e)) else None

-- where a link from an event begins: at its dot, or at the upper border if the event comes before the range
abbrev pub link_top : Frame → ℕ → ℕ
link_top frame d = if nat_lt d frame.first then TOP else y_of frame d

-- a step of the chain along a lane
abbrev pub link_from : Content → Frame → (lanes : List ℕ) → (e d : ℕ) → Option Link
link_from c frame lanes e d =
    if node_at c d == node_at c e then Some (record { x = x_of frame (lane_at c lanes e); from = link_top frame d; to = y_of frame e }) else None

-- a marked event has a link from its forcing event, if that is at the same node
abbrev pub link_of : Content → Option EventId → Frame → (lanes : List ℕ) → ℕ → Option Link
link_of c explained frame lanes e = if marked_at c explained e then option_and_then (link_from c frame lanes e) (forcing_at c e) else None

-- and one to the lower border, if it forces the event with which the chain goes on after the range, and that is at the same node
abbrev pub stub_to : Content → Frame → (lanes : List ℕ) → (e f : ℕ) → Option Link
stub_to c frame lanes e f =
    if is_event (forcing_at c f) e && (node_at c f == node_at c e) then
    Some (record { x = x_of frame (lane_at c lanes e); from = y_of frame e; to = frame.height }) else None

abbrev pub stub_of : Content → Option EventId → Frame → (lanes : List ℕ) → ℕ → Option Link
stub_of c explained frame lanes e = option_and_then (stub_to c frame lanes e) (next_of c explained frame)

-- whether the chain goes from one event to another
abbrev pub is_step : Content → Option EventId → (d e : ℕ) → Bool
is_step c explained d e = marked_at c explained e && is_event (forcing_at c e) d

-- the arrow from a send to a delivery is marked if the chain goes along it
abbrev pub arrow_between : Content → Option EventId → Frame → (lanes : List ℕ) → (sent delivered : ℕ) → Arrow
arrow_between c explained frame lanes sent delivered =
    arrow_along c frame lanes (stand_in frame sent) (stand_in frame delivered) (is_step c explained sent delivered)

-- a delivery has an arrow from its send, if that is drawn
abbrev pub arrow_into : Content → Option EventId → Frame → (lanes : List ℕ) → ℕ → (send : Option ℕ) → Option Arrow
arrow_into c explained frame lanes e None = None
arrow_into c explained frame lanes e (Some sent) = if nat_lt sent frame.first then None else Some (arrow_between c explained frame lanes sent e)

abbrev pub arrow_of : Content → Option EventId → Frame → (lanes : List ℕ) → ℕ → Option Arrow
arrow_of c explained frame lanes e = arrow_into c explained frame lanes e (skeleton_at c.events e).send

-- where a border is
abbrev pub border_of : Frame → Border → ℕ
border_of frame Upper = TOP
border_of frame Lower = frame.height

-- how far from a lane an arrow over a border begins or ends beside a dot: what comes in ends at the ring, if there is one
abbrev pub side_distance : Border → Look → (half : ℕ) → ℕ
side_distance Upper look half = reach_of look half
side_distance Lower look half = half

-- how far from a lane an arrow over a border turns, and its number stands: what leaves turns further out than what comes in
abbrev pub turn_distance : Border → ℕ → ℕ
turn_distance Upper half = 5 * half / 2 + 10
turn_distance Lower half = 5 * half / 2 + 16

abbrev pub number_distance : Border → ℕ → ℕ
number_distance Upper half = 7 * half / 4 + 9
number_distance Lower half = 7 * half / 4 + 4

-- the side of e on which an arrow over a border runs: that of the node of its other end, which needs no lane
abbrev pub is_left : Content → (e other : ℕ) → Bool
is_left c e other = nat_lt (node_at c other) (node_at c e)

-- an arrow over a border at the dot of e
abbrev pub end_at : Content → Frame → (lanes : List ℕ) → Border → (e other : ℕ) → Bool → End
end_at c frame lanes border e other marked = record {
  border = border;
  x = aside frame (lane_at c lanes e) (is_left c e other) (side_distance border (c.look e) frame.half);
  number_x = aside frame (lane_at c lanes e) (is_left c e other) (number_distance border frame.half);
  turn_x = aside frame (lane_at c lanes e) (is_left c e other) (turn_distance border frame.half);
  y = y_of frame e;
  border_y = border_of frame border;
  event = record { 0 = other };
  number = c.shown other;
  is_marked = marked;
}

-- a delivery whose send comes before the range has an arrow over the upper border, with the number of the send; it is marked if the chain
-- goes along it
abbrev pub entering_from : Content → Option EventId → Frame → (lanes : List ℕ) → ℕ → (send : Option ℕ) → Option End
entering_from c explained frame lanes e None = None
entering_from c explained frame lanes e (Some sent) =
    if nat_lt sent frame.first then Some (end_at c frame lanes Upper e sent (is_step c explained sent e)) else None

abbrev pub entering_of : Content → Option EventId → Frame → (lanes : List ℕ) → ℕ → Option End
entering_of c explained frame lanes e = entering_from c explained frame lanes e (skeleton_at c.events e).send

-- whether the chain goes on from an event of the range to one after it
abbrev pub goes_on : Content → Option EventId → Frame → (e f : ℕ) → Bool
goes_on c explained frame e f = is_event (next_of c explained frame) f && is_event (forcing_at c f) e

-- the first delivery of a send that comes after the range
abbrev pub first_after : Content → Frame → ℕ → Option ℕ
first_after c frame e = find (λ f. nat_le frame.end f) (deliveries_of c.events e)

-- the delivery of e with which the chain goes on after the range, if it goes on from e by a message
abbrev pub step_after : Content → ℕ → (next : Option ℕ) → Option ℕ
step_after c e None = None
step_after c e (Some f) = if is_event (forcing_at c f) e && is_event (skeleton_at c.events f).send e then Some f else None

-- the delivery to which an arrow over the lower border leads: that one, or else the first after the range
abbrev pub delivery_after : Content → Option EventId → Frame → ℕ → Option ℕ
delivery_after c explained frame e = option_or (step_after c e (next_of c explained frame)) (first_after c frame e)

-- a send that is delivered after the range has an arrow over the lower border, with the number of that delivery; it is marked if the chain goes
-- on along it
abbrev pub leaving_to : Content → Option EventId → Frame → (lanes : List ℕ) → ℕ → Option ℕ → Option End
leaving_to c explained frame lanes e None = None
leaving_to c explained frame lanes e (Some f) = Some (end_at c frame lanes Lower e f (goes_on c explained frame e f))

abbrev pub leaving_of : Content → Option EventId → Frame → (lanes : List ℕ) → ℕ → Option End
leaving_of c explained frame lanes e = leaving_to c explained frame lanes e (delivery_after c explained frame e)

-- the dot of an event
abbrev pub dot_of : Content → Option EventId → Frame → (lanes : List ℕ) → ℕ → Dot
dot_of c explained frame lanes e = dot_at c frame lanes (stand_in frame e) (marked_at c explained e)
