use Rattle.hlc_ordered_log.specs.InOrder.{reading_told, skeleton_of}
use Rattle.hlc_ordered_log.specs.Skew.{AreSkewsBefore}
use Rattle.hlc_ordered_log.proofs.skews.skews_of.Given as goal

-- the skews of the messages that events before the position receive
abbrev pub invariant-loop-position : goal.invariant-loop-position
invariant-loop-position l = AreSkewsBefore (skeleton_of l.log) (reading_told l.log) l.position l.skews.entries
