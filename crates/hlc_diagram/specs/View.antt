-- What of a history is drawn.
use Rattle.std.specs.Prelude.{◌≡◌, ◌⊎◌, ℕ, ◌+◌, ◌-◌, ◌/◌, ◌^◌, ◌<◌, ◌≤◌, Option, min, unwrap_or}
use Rattle.hlc_stamp.specs.declared.id.EventId.{EventId}
use Rattle.hlc_diagram.specs.declared.view.View.{View}

-- the last of the 500 events that are drawn at most, if no last one is named
abbrev pub last_of_most : EventId → EventId
last_of_most first = record { 0 = min (first.0 + 499) (2 ^ 32 - 1) }

-- the events from one on, or from the first of all, to a last one, or as many as are drawn at most
abbrev pub view_between : (from to explained : Option EventId) → View
view_between from to explained =
    let first = unwrap_or from (record { 0 = 0 }) in
    record { first = first; last = unwrap_or to (last_of_most first); explained = explained }

-- the first of so many events about one: half of the others come before it, or one fewer than half, as far as there are that many on either side
abbrev pub first_around : (event number count : ℕ) → ℕ
first_around event number count = min (event - (number - 1) / 2) (count - number)

-- where they end
abbrev pub end_around : (event number count : ℕ) → ℕ
end_around event number count = min (first_around event number count + number) count

-- so many events about one
abbrev pub view_around : EventId → (number count : ℕ) → (explained : Option EventId) → View
view_around event number count explained = record {
  first = record { 0 = first_around event.0 number count };
  last = record { 0 = end_around event.0 number count - 1 };
  explained = explained;
}

-- the events from one to before another are so many about an event: it is among them, and they are as many as were asked for, or all that there are.
-- No more of them come before it than after it, unless they are the last, and after it at most one more than before, unless they are the first
pub record AreAround (event number count first end : ℕ) : Type 0 where
  pub begun : first ≤ event
  pub not_ended : event < end
  pub exist : end ≤ count
  pub as_many : end - first ≡ min number count
  pub before : (event - first ≤ end - 1 - event) ⊎ (end ≡ count)
  pub after : (end - 1 - event ≤ event - first + 1) ⊎ (first ≡ 0)

abbrev pub ViewsAreAround : Type 0
ViewsAreAround = (event number count : ℕ) → event < count → 0 < number →
    AreAround event number count (first_around event number count) (end_around event number count)
