-- The rank and the entry that a stamped event gives its write.
use Rattle.std.proofs.Common.{ℕ}
use Rattle.hlc_stamp.specs.declared.rank.Rank.{Rank}
use Rattle.hlc_arena.specs.History.{StampedEvent}
use Rattle.hlc_table.specs.declared.entry.Entry.{Entry}

abbrev pub rank_of : StampedEvent → Rank
rank_of x = record { stamp = x.stamp; node = record { 0 = x.event.node } }

abbrev pub entry_of_event : ℕ → StampedEvent → Entry
entry_of_event w x = record { write = record { 0 = w }; rank = rank_of x }
