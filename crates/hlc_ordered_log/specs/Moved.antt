-- Answers about the events of one order, told of those of another.
use Rattle.std.specs.Prelude.{ℕ, option_map}
use Rattle.hlc_stamp.specs.declared.id.EventId.{EventId}
use Rattle.hlc_verdict.specs.declared.verdict.Verdict.{Verdict}
use Rattle.hlc_verdict.specs.declared.verdict.Verdict.TheVariants as verdict
use Rattle.hlc_causes.specs.declared.answers.Causes.{Causes}
use Rattle.hlc_causes.specs.declared.answers.Finding.{Finding}
use Rattle.hlc_causes.specs.declared.answers.Finding.TheVariants.{Judged, RolledOver}
use Rattle.hlc_ordered_log.specs.declared.skew.Skew.{Skew}

-- the event to which a map takes another
abbrev pub moved_event : (to : ℕ → ℕ) → EventId → EventId
moved_event to e = record { 0 = to e.0 }

-- a verdict and a finding name at most one event
abbrev pub moved_verdict : (to : ℕ → ℕ) → Verdict → Verdict
moved_verdict to (verdict.NotAbove d) = verdict.NotAbove (moved_event to d)
moved_verdict to other = other

abbrev pub moved_finding : (to : ℕ → ℕ) → Finding → Finding
moved_finding to (Judged verdict) = Judged (moved_verdict to verdict)
moved_finding to RolledOver = RolledOver

-- causes name at most two
abbrev pub moved_causes : (to : ℕ → ℕ) → Causes → Causes
moved_causes to causes = record causes {
  not_above_previous = option_map (moved_event to) causes.not_above_previous;
  not_above_send = option_map (moved_event to) causes.not_above_send;
}

-- a skew names its message by two
abbrev pub moved_skew : (to : ℕ → ℕ) → Skew → Skew
moved_skew to skew = record skew { send = moved_event to skew.send; delivery = moved_event to skew.delivery }
