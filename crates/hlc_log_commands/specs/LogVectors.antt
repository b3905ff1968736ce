-- What was written of a log with its vectors.
use Rattle.std.specs.Prelude.{ℕ, List, Option}
use Rattle.std.specs.Io.KnownBytes.{Appends}
use Rattle.hlc_stamp.specs.declared.limits.TheConstants.{MAX_CAPACITY}
use Rattle.hlc_log_text.specs.declared.log_rules.LogRules.{LogRules}
use Rattle.hlc_log_picture.specs.LogVectors.{log_vector_text}
use Rattle.hlc_open_log.specs.Opened.{IsOpened, OpenedLog}

-- the input is a log, and the output got its events with their vectors
abbrev pub HasVectors : LogRules → (input before after : Option (List ℕ)) → Type 0
HasVectors rules input before after =
    (opened : OpenedLog) × IsOpened rules MAX_CAPACITY input opened × Appends before after (log_vector_text opened)
