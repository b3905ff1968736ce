-- How the events of a log stand: by their seqs, and then by their lines.
use Rattle.std.specs.Prelude.{◌≡◌, ℕ, ◌<◌, ◌≤◌, ◌⊎◌, List, length}
use Rattle.hlc_log.specs.declared.log_event.LogEvent.{LogEvent}
use Rattle.hlc_log.specs.Events.{event_at}

-- the seq of the event at a place
abbrev pub seq_at : List LogEvent → ℕ → ℕ
seq_at events e = (event_at events e).seq

-- e stands before f: its seq is lower, or, if they are equal, its place is
abbrev pub StandsBefore : List LogEvent → ℕ → ℕ → Type 0
StandsBefore events e f = (seq_at events e < seq_at events f) ⊎ ((seq_at events e ≡ seq_at events f) × (e < f))

-- events stand as the log tells of them: their seqs never fall
abbrev pub SeqsRise : List LogEvent → Type 0
SeqsRise events = (e f : ℕ) → e < f → f < length events → seq_at events e ≤ seq_at events f
