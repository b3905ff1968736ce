use Rattle.std.proofs.Common.{◌≡◌, ◌+◌, ◌-◌, ◌≤◌, length}
use Rattle.hlc_svg.specs.Label.{label_width}
use Rattle.hlc_svg.proofs.label.label_width.Given as goal

-- what is seen so far, with what is left, is the whole
abbrev pub invariant-rest : goal.invariant-rest
invariant-rest l = record {
  within : l.left ≤ l.room;
  seen : (l.room - l.left) + label_width l.left l.rest ≡ label_width l.room l.bytes;
}

abbrev pub decreases-rest : goal.decreases-rest
decreases-rest l = length l.rest
