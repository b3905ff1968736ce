-- How a line is told in a row.
use Rattle.std.specs.Prelude.{ℕ, List, decimal}
use Rattle.hlc_log_text.specs.declared.line_text.Told.{Told}
use Rattle.hlc_log_text.specs.declared.line_text.Told.TheVariants.{InFile, Line}

-- the bytes of what is kept of it
abbrev pub told_bytes : Told → List ℕ
told_bytes (Line line) = decimal line
told_bytes (InFile text) = text.items
