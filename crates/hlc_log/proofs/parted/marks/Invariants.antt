use Rattle.std.proofs.Common.{◌≡◌, length, take}
use Rattle.hlc_log.proofs.KeptEvents.{AreMarks}
use Rattle.hlc_log.proofs.parted.marks.Given as goal

abbrev pub invariant-loop-place : goal.invariant-loop-place
invariant-loop-place l = record {
  len : length l.marks.items ≡ l.events;
  marks : AreMarks (take l.place-index l.order) l.marks.items;
}
