-- What is said of what happened.
use Rattle.std.specs.Prelude.{ℕ, ◌++◌, List, codes, decimal, length}
use Rattle.hlc_arena.specs.History.{EventKind, StampedEvent, event_at}
use Rattle.hlc_arena.specs.History as history
use Rattle.hlc_arena.specs.Known.{key_at}
use Rattle.hlc_diagram.specs.Label.{label_text}
use Rattle.hlc_picture.specs.declared.what.TheConstants.{KEY_ROOM, VALUE_ROOM}

-- what a row says of what happened: of a sync how many writes it carries
pub data What : Type 0 where
  Wrote : (key value : List ℕ) → What
  Erased : (key : List ℕ) → What
  Sent : (key : List ℕ) (to : ℕ) → What
  Synced : (count to : ℕ) → What
  Delivered : (sent : ℕ) → What

abbrev pub what_of : List StampedEvent → EventKind → What
what_of events (history.Written key value) = Wrote key value
what_of events (history.Erased key) = Erased key
what_of events (history.Sent to write) = Sent (key_at events write) to
what_of events (history.Synced to writes) = Synced (length writes) to
what_of events (history.Delivered sent) = Delivered sent

abbrev pub what_at : List StampedEvent → ℕ → What
what_at events e = what_of events (event_at events e).kind

-- the text of that, in which keys and values are shown as labels
abbrev pub what_text : What → List ℕ
what_text (Wrote key value) = codes "write " ++ (label_text KEY_ROOM key ++ (codes " = " ++ label_text VALUE_ROOM value))
what_text (Erased key) = codes "erase " ++ label_text KEY_ROOM key
what_text (Sent key to) = codes "send " ++ (label_text KEY_ROOM key ++ (codes " to " ++ decimal to))
what_text (Synced count to) = codes "sync " ++ (decimal count ++ (codes " to " ++ decimal to))
what_text (Delivered sent) = codes "deliver " ++ decimal sent
