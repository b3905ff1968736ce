use Rattle.std.proofs.Common.{rules}
use Rattle.hlc_svg.proofs.shapes.CourseDisplay.fmt.Goals as goal
use Rattle.hlc_svg.proofs.shapes.CourseDisplay.fmt.Goals.{in-Lower, in-Upper}

pub returns-clause-writes : goal.returns-clause-writes
returns-clause-writes g c =
    elim c.match-border.branch [
      | in-Upper w ↦ rw w.in-Upper.is (search rules)
      | in-Lower w ↦ rw w.in-Lower.is (search rules)
    ]
