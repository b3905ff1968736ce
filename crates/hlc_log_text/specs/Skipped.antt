-- Records that were left out of a log.
use Rattle.std.specs.Prelude.{ℕ, ◌+◌, Bool, false, true, List, [], ◌∷◌, Option, Some, None, filter, length}
use Rattle.hlc_log_text.specs.LogItem.{Asks, Begins, Fails, LogItem, Names, Skips, Tells, lines_where}
use Rattle.hlc_log_text.specs.declared.skipped.Skipped.{Skipped}

-- whether a record says that it was left out
abbrev pub is_skip : LogItem → Bool
is_skip (Tells event) = false
is_skip (Asks asked) = false
is_skip (Names columns) = false
is_skip Skips = true
is_skip (Begins name) = false
is_skip (Fails why) = false

-- how many records say so
abbrev pub skip_count : List LogItem → ℕ
skip_count items = length (filter is_skip items)

-- how many were left out
abbrev pub skipped_count : Option Skipped → ℕ
skipped_count None = 0
skipped_count (Some skipped) = skipped.count

-- those that were left out with one more, on a line: the first stays the first
abbrev pub with_skip : Option Skipped → (line : ℕ) → Skipped
with_skip None line = record { count = 1; line = line }
with_skip (Some skipped) line = record { count = skipped.count + 1; line = skipped.line }

-- how many were left out, and the line of the first, by their lines
abbrev pub skipped_on : List ℕ → Option Skipped
skipped_on [] = None
skipped_on (line ∷ lines) = Some (record { count = length lines + 1; line = line })

-- the same by what all records say, and their lines
abbrev pub skipped_in : List LogItem → List ℕ → Option Skipped
skipped_in items lines = skipped_on (lines_where is_skip items lines)
