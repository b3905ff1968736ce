use Rattle.hlc_log_audit.specs.OverLimit.{AreOversBefore}
use Rattle.hlc_log_audit.proofs.overs.overs_of.Given as goal

-- what of the claims of the events so far is over the limit
abbrev pub invariant-loop-place : goal.invariant-loop-place
invariant-loop-place l = AreOversBefore l.limit l.log.nodes l.log.events l.place l.overs.items
