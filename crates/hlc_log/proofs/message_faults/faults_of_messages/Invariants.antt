use Rattle.std.proofs.Common.{◌≡◌}
use Rattle.hlc_log.specs.MessageFaults.{message_faults_before}
use Rattle.hlc_log.proofs.message_faults.faults_of_messages.Given as goal

abbrev pub invariant-loop-place : goal.invariant-loop-place
invariant-loop-place l = l.faults.items ≡ message_faults_before l.log.events l.place
