-- What the label of a row says of an event.
use Rattle.std.specs.Prelude.{ℕ, List, ◌++◌, codes, decimal}
use Rattle.hlc_arena.specs.History.{Delivered, Erased, EventKind, Sent, StampedEvent, Synced, Written}
use Rattle.hlc_arena.specs.Known.{key_at}

-- what happened at an event; of a send also the key of its write
abbrev pub label_of : List StampedEvent → EventKind → List ℕ
label_of events (Written key value) = codes "write " ++ key
label_of events (Erased key) = codes "erase " ++ key
label_of events (Sent to write) = codes "send " ++ key_at events write ++ codes " to " ++ decimal to
label_of events (Synced to writes) = codes "sync to " ++ decimal to
label_of events (Delivered sent) = codes "deliver " ++ decimal sent
