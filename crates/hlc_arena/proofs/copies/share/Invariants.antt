use Rattle.std.proofs.Common.{◌≡◌, take}
use Rattle.hlc_arena.specs.Stored.{places_in}
use Rattle.hlc_arena.proofs.copies.share.Given as goal

abbrev pub invariant-loop-place : goal.invariant-loop-place
invariant-loop-place l = places_in l.shared.items ≡ places_in (take l.place l.lists.items)
