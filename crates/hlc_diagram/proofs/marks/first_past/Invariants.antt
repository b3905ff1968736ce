use Rattle.std.proofs.Common.{◌≡◌, drop}
use Rattle.hlc_stamp.specs.Ids.{places_of}
use Rattle.hlc_figures.specs.Chosen.{first_past}
use Rattle.hlc_diagram.proofs.marks.first_past.Given as goal

-- none of the events so far comes after the range
abbrev pub invariant-loop-event : goal.invariant-loop-event
invariant-loop-event l = first_past (places_of (drop l.event-index l.list)) l.frame ≡ first_past (places_of l.list) l.frame
