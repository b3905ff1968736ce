use Rattle.hlc_log_audit.specs.Tally.{AreTalliesBefore}
use Rattle.hlc_log_audit.proofs.tally.tally_nodes.Given as goal

-- the events before the position are tallied
abbrev pub invariant-loop-position : goal.invariant-loop-position
invariant-loop-position l = AreTalliesBefore l.log l.position l.tallies.items
