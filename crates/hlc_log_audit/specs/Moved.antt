-- Answers about the events of one order, told of those of another.
use Rattle.std.specs.Prelude.{ℕ}
use Rattle.hlc_explain.specs.declared.answers.Drift.{Drift}
use Rattle.hlc_ordered_log.specs.Moved.{moved_event}

-- a drift names its event and the origin of that
abbrev pub moved_drift : (to : ℕ → ℕ) → Drift → Drift
moved_drift to drift = record drift { event = moved_event to drift.event; origin = moved_event to drift.origin }
