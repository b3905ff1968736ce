use Rattle.hlc_log_picture.specs.Judged.{AreEventFindingsBefore}
use Rattle.hlc_log_picture.proofs.event_finding.findings.Given as goal

-- the events so far are judged
abbrev pub invariant-loop-place : goal.invariant-loop-place
invariant-loop-place l = AreEventFindingsBefore l.log l.full l.place l.findings.items
