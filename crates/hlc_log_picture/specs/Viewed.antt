-- Which rows of a log are drawn, by the lines of the events.
use Rattle.std.specs.Prelude.{◌≡◌, ◌⊎◌, ℕ, ◌<◌, Option, Some, None, length}
use Rattle.hlc_diagram.specs.View.{view_around, view_between}
use Rattle.hlc_diagram.specs.declared.view.View.{View}
use Rattle.hlc_ordered_log.specs.InOrder.{line_in}
use Rattle.hlc_stamp.specs.declared.id.EventId.{EventId}
use Rattle.hlc_log_picture.specs.Drawn.{DrawnLog}

-- the record of the event in a row begins on a line
pub record IsRowOn (drawn : DrawnLog) (line k : ℕ) : Type 0 where
  pub exists : k < length drawn.log.events
  pub on_line : line_in drawn.log k ≡ line

-- no event's does
abbrev pub HasNoRow : DrawnLog → (line : ℕ) → Type 0
HasNoRow drawn line = (k : ℕ) → ¬ IsRowOn drawn line k

-- a line stands for the row of its event or, if it is that of no event, for the end
abbrev pub StandsFor : DrawnLog → (line k : ℕ) → Type 0
StandsFor drawn line k = IsRowOn drawn line k ⊎ (HasNoRow drawn line × (k ≡ length drawn.log.events))

-- a line stands for a row, if it is named
abbrev pub NamesRow : DrawnLog → (line : Option ℕ) → Option EventId → Type 0
NamesRow drawn None row = row ≡ None
NamesRow drawn (Some line) None = ⊥
NamesRow drawn (Some line) (Some k) = StandsFor drawn line k.0

-- a view begins and ends at the rows of two lines, and explains the event of a third one
abbrev pub IsViewBetween : DrawnLog → (from to explained : Option ℕ) → View → Type 0
IsViewBetween drawn from to explained view =
    (f : Option EventId) × (t : Option EventId) × (e : Option EventId)
    × NamesRow drawn from f × NamesRow drawn to t × NamesRow drawn explained e × (view ≡ view_between f t e)

-- a view has so many rows about that of a line, and explains the event of another one
abbrev pub IsViewAround : DrawnLog → (line rows : ℕ) → (explained : Option ℕ) → View → Type 0
IsViewAround drawn line rows explained view =
    (k : EventId) × (e : Option EventId) × StandsFor drawn line k.0 × NamesRow drawn explained e
    × (view ≡ view_around k rows (length drawn.log.events) e)
