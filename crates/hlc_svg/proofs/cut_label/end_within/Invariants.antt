use Rattle.std.proofs.Common.{◌≡◌, length}
use Rattle.hlc_svg.specs.CutLabel.{end_within}
use Rattle.hlc_svg.proofs.cut_label.end_within.Given as goal

-- the end that there is room for is still there
abbrev pub invariant-end : goal.invariant-end
invariant-end l = end_within l.room l.end ≡ end_within l.fn.room l.fn.bytes

abbrev pub decreases-end : goal.decreases-end
decreases-end l = length l.end
