use Rattle.std.proofs.Common.{◌≡◌, List, Option}
use Rattle.hlc_causes.specs.declared.answers.Finding.{Finding}
use Rattle.hlc_ordered_log.specs.Counts.{AreFindings, counts_of}
use Rattle.hlc_ordered_log.proofs.counts.count_findings.Given as goal

-- what is found of the events before the position is counted
abbrev pub invariant-loop-position : goal.invariant-loop-position
invariant-loop-position l =
    (findings : List (Option Finding)) × AreFindings l.log l.full l.position findings × (l.counts ≡ counts_of findings)
