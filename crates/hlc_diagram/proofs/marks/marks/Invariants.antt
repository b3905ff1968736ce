use Rattle.std.proofs.Common.{take}
use Rattle.hlc_stamp.specs.Ids.{places_of}
use Rattle.hlc_figures.specs.Chosen.{AreMarks}
use Rattle.hlc_diagram.proofs.marks.marks.Given as goal

abbrev pub invariant-loop-event : goal.invariant-loop-event
invariant-loop-event l = AreMarks (places_of (take l.event-index l.list)) l.frame l.marks.items
