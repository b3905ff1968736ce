use Rattle.std.proofs.Common.{ℕ, ◌<◌, ◌≤◌}
use Rattle.hlc_log.specs.declared.log_event.TheConstants.{MAX_LOG_NODES}
use Rattle.hlc_log.specs.Placing.{node_at}
use Rattle.hlc_log.proofs.placing.nodes_of.Given as goal

-- the nodes of the events so far
abbrev pub invariant-loop-place : goal.invariant-loop-place
invariant-loop-place l = record {
  few : l.nodes ≤ MAX_LOG_NODES;
  below : (e : ℕ) → e < l.place → node_at l.log.events e < l.nodes;
}
