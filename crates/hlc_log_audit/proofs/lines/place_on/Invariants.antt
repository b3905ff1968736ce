use Rattle.std.proofs.Common.{ℕ, ◌<◌, ◌≤◌, ◌-◌, length}
use Rattle.hlc_log.specs.Events.{event_at}
use Rattle.hlc_log_audit.proofs.lines.place_on.Given as goal

-- events before low are on earlier lines, and those from high on are on later ones
abbrev pub invariant-loop-low : goal.invariant-loop-low
invariant-loop-low l = record {
  order : l.low ≤ l.high;
  end : l.high ≤ length l.log.events;
  before : (e : ℕ) → e < l.low → (event_at l.log.events e).line < l.line;
  after : (e : ℕ) → l.high ≤ e → e < length l.log.events → l.line < (event_at l.log.events e).line;
}

abbrev pub decreases-loop-low : goal.decreases-loop-low
decreases-loop-low l = l.high - l.low
