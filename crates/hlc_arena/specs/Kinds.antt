-- What kinds and records stand for.
use Rattle.std.specs.Prelude.{List}
use Rattle.std.specs.Borrow.{Bor}
use Rattle.std.specs.Arc.{arc_slice_items}
use Rattle.std.specs.declared.alloc.Global.{Global}
use Rattle.std.specs.declared.sync.ArcSlice.{ArcSlice}
use Rattle.hlc_stamp.specs.declared.id.EventId.{EventId}
use Rattle.hlc_stamp.specs.Ids.{places_of}
use Rattle.hlc_arena.specs.declared.kind.Kind.{Kind}
use Rattle.hlc_arena.specs.declared.kind.Kind.TheVariants.{Deliver, Erase, Send, Sync, Write}
use Rattle.hlc_arena.specs.declared.record.Record.{Record}
use Rattle.hlc_arena.specs.History.{Delivered, Erased, EventKind, Sent, StampedEvent, Synced, Written}

-- what a kind stands for, by the writes that its list holds
abbrev pub kind_by : {W : Type 0} → (W → List EventId) → Kind W → EventKind
kind_by writes_in (Write key value) = Written key.now value.now
kind_by writes_in (Erase key) = Erased key.now
kind_by writes_in (Send to write) = Sent to.0 write.0
kind_by writes_in (Sync to writes) = Synced to.0 (places_of (writes_in writes))
kind_by writes_in (Deliver sent) = Delivered sent.0

-- what a kind stands for
abbrev pub event_kind_of : Kind (Bor (List EventId)) → EventKind
event_kind_of kind = kind_by (λ writes. writes.now) kind

-- what the kind of an event that comes next stands for
abbrev pub next_kind_of : Kind (ArcSlice EventId Global) → EventKind
next_kind_of kind = kind_by arc_slice_items kind

-- what a record stands for
abbrev pub stamped_event_of : Record → StampedEvent
stamped_event_of r = record { event = record { node = r.node.0; reading = r.reading; kind = event_kind_of r.kind }; stamp = r.stamp }
