-- The laws of arrows that end in a cross, in a reader's words.
use Rattle.std.specs.Prelude.{◌≡◌, ◌⊎◌, Bool, ℕ, ◌+◌, ◌-◌, ◌/◌, ◌^◌, ◌<◌, ◌≤◌, Contains, List, [], Some, count_by, find, min}
use Rattle.hlc_stamp.specs.declared.id.NodeId.{NodeId}
use Rattle.hlc_figures.specs.Content.{Content}
use Rattle.hlc_diagram.specs.Cross.{NamedCross}
use Rattle.hlc_diagram.specs.Failed.{is_same_message, message_of}
use Rattle.hlc_diagram.specs.Layout.{lanes_in}
use Rattle.hlc_figures.specs.FigureText.{NamedLane}
use Rattle.hlc_diagram.specs.Laws.{IsAtDot, IsInRange, dots_in, entering_in, leaving_in}
use Rattle.hlc_svg.specs.Clear.{KeepsClear, NeverRises}
use Rattle.hlc_svg.specs.Frame.{x_of}
use Rattle.hlc_svg.specs.Meeting.{LieApart}
use Rattle.hlc_svg.specs.Path.{arrow_end, arrow_start, course_of, path_of}
use Rattle.hlc_diagram.specs.Picture.{Picture, picture_of, picture_with}
use Rattle.hlc_svg.specs.declared.dot.Dot.{Dot}
use Rattle.hlc_svg.specs.declared.frame.TheConstants.{ROW}
use Rattle.hlc_svg.specs.declared.shapes.End.{End}
use Rattle.hlc_svg.specs.declared.shapes.Point.{Point}
use Rattle.hlc_diagram.specs.declared.undelivered.Undelivered.{Undelivered}
use Rattle.hlc_diagram.specs.declared.view.View.{View}

-- a message is shown if its send and the last event before it first failed to arrive are in the range, and its target has a lane
pub record IsShown (c : Content) (view : View) (m : Undelivered) : Type 0 where
  pub sent : IsInRange c view m.send.0
  pub later : m.send.0 < m.before.0
  pub last : IsInRange c view (m.before.0 - 1)
  pub lane : Contains (lanes_in c view) m.to.0

-- whether it is one message that failed to arrive at two times
abbrev pub is_again : Undelivered → Undelivered → Bool
is_again m n = is_same_message (message_of m) (message_of n)

-- a message first failed to arrive at m
abbrev pub FailsFirst : List Undelivered → Undelivered → Type 0
FailsFirst undelivered m = find (is_again m) undelivered ≡ Some m

-- a message that is shown has one cross, however often it failed to arrive
abbrev pub EachMessageHasItsCross : Type 0
EachMessageHasItsCross = (c : Content) (view : View) (undelivered : List Undelivered) (m : Undelivered) → FailsFirst undelivered m → IsShown c view m →
    count_by (λ x. is_again m x.cross.failed.first) (picture_with c view undelivered).crosses ≡ 1

-- a point lies on a side of a node's lane, where a dot would end
abbrev pub IsBesideLane : Picture → NodeId → Point → Type 0
IsBesideLane p node point =
    (l : NamedLane) × Contains p.lanes l × (l.lane.node ≡ node) × ((point.x ≡ l.lane.x + p.frame.half) ⊎ (point.x + p.frame.half ≡ l.lane.x))

-- and between the row of the event at e and the next row: from midway on
abbrev pub IsBelowRow : Picture → (e : ℕ) → Point → Type 0
IsBelowRow p e point =
    (dot : Dot) × Contains (dots_in p) dot × (dot.event.0 ≡ e) × (dot.at.y + ROW / 2 ≤ point.y) × (point.y < dot.at.y + ROW)

-- an arrow that ends in a cross is of a message that was handed over and is shown, and has the number of times that it was. It runs from the dot of the send to beside the lane of the
-- message's node, downwards, and ends after the row of the last event by then and before the next one
pub record IsCrossOfMessage (c : Content) (view : View) (undelivered : List Undelivered) (p : Picture) (x : NamedCross) : Type 0 where
  pub handed_over : FailsFirst undelivered x.cross.failed.first
  pub times : x.cross.failed.times ≡ min (count_by (is_again x.cross.failed.first) undelivered) (2 ^ 64 - 1)
  pub shown : IsShown c view x.cross.failed.first
  pub from : IsAtDot p x.cross.failed.first.send (arrow_start x.cross.route)
  pub beside : IsBesideLane p x.cross.failed.first.to (arrow_end x.cross.route)
  pub below : IsBelowRow p (x.cross.failed.first.before.0 - 1) (arrow_end x.cross.route)
  pub down : (arrow_start x.cross.route).y < (arrow_end x.cross.route).y
  pub falls : NeverRises (path_of x.cross.route)
  pub number : x.cross.number ≡ c.number x.cross.failed.first.send.0
  pub name : x.name ≡ c.name x.cross.failed.first.to.0

abbrev pub CrossesAreOfMessages : Type 0
CrossesAreOfMessages = (c : Content) (view : View) (undelivered : List Undelivered) (x : NamedCross) →
    Contains (picture_with c view undelivered).crosses x → IsCrossOfMessage c view undelivered (picture_with c view undelivered) x

-- no such arrow comes nearer to a dot than half its width and height
abbrev pub CrossesKeepClear : Type 0
CrossesKeepClear = (c : Content) (view : View) (undelivered : List Undelivered) (x : NamedCross) (dot : Dot) →
    Contains (picture_with c view undelivered).crosses x → Contains (dots_in (picture_with c view undelivered)) dot → KeepsClear dot (path_of x.cross.route)

-- such an arrow to the lane that it comes from has no more than points in common with an arrow over a border at a dot of that lane
abbrev pub OwnCrossesLieApart : Type 0
OwnCrossesLieApart = (c : Content) (view : View) (undelivered : List Undelivered) (x : NamedCross) (end : End) (dot : Dot) →
    Contains (picture_with c view undelivered).crosses x → x.cross.route.from ≡ x.cross.route.to →
    Contains (entering_in (picture_of c view)) end ⊎ Contains (leaving_in (picture_of c view)) end →
    Contains (dots_in (picture_of c view)) dot → dot.at.y ≡ end.y → dot.at.x ≡ x_of (picture_of c view).frame x.cross.route.from.0 →
    LieApart (path_of x.cross.route) (course_of end)

-- but for these arrows a picture is that of the same view without them, so all that holds of that holds of it
abbrev pub NothingElseChanges : Type 0
NothingElseChanges = (c : Content) (view : View) (undelivered : List Undelivered) →
    record (picture_with c view undelivered) { crosses = [] } ≡ picture_of c view
