-- An event that comes next in a history.
use Rattle.std.specs.Prelude.{ℕ, List, [], ◌∷◌, ◌++◌, length}
use Rattle.hlc_arena.specs.History.{StampedEvent}
use Rattle.hlc_arena.specs.Known.{writes_learnt}
use Rattle.hlc_arena.specs.Kinds.{event_kind_of}
use Rattle.hlc_table.specs.declared.next_event.NextEvent.{NextEvent}

-- the event that it will be
abbrev pub event_of : NextEvent → StampedEvent
event_of next = record { event = record { node = next.node.0; reading = next.reading; kind = event_kind_of next.kind }; stamp = next.stamp }

-- the history's events with it
abbrev pub events_with : List StampedEvent → NextEvent → List StampedEvent
events_with events next = events ++ event_of next ∷ []

-- the writes that it makes known at its node
abbrev pub learnt_of : List StampedEvent → NextEvent → List ℕ
learnt_of events next = writes_learnt events (length events) (event_kind_of next.kind)
