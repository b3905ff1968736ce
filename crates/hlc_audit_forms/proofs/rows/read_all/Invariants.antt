use Rattle.std.proofs.Common.{ℕ, List, [], Some, map}
use Rattle.csv.specs.Records.{fields_of}
use Rattle.hlc_csv.specs.RecordReader.{HasReadTo}
use Rattle.hlc_audit_forms.proofs.rows.read_all.Given as goal

-- the rows so far were read
abbrev pub invariant-loop-row : goal.invariant-loop-row
invariant-loop-row g l =
    (text : List ℕ) → HasReadTo g.R.Read.remaining l.initial.input (Some text) [] []
    → (lines : List ℕ) × HasReadTo g.R.Read.remaining l.input (Some text) (map fields_of l.rows.items) lines
