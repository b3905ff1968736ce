-- A reader that reads again if it was interrupted.
use Rattle.std.specs.Prelude.{ℕ, List, Option}
use Rattle.hlc_csv.specs.declared.retrying_reader.RetryingReader.{RetryingReader}

-- the bytes that its reader will give, if they are known
abbrev pub retrying_remaining : {R : Type 0} → (R → Option (List ℕ)) → RetryingReader R → Option (List ℕ)
retrying_remaining remaining r = remaining r.reader
