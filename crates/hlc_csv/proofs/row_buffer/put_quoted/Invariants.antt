use Rattle.std.proofs.Common.{◌≡◌, ◌++◌, ◌∷◌, ℕ, List, length}
use Rattle.csv.specs.Writing.{escaped}
use Rattle.hlc_csv.specs.Rows.{row_setup}
use Rattle.hlc_csv.proofs.row_buffer.put_quoted.Given as goal

abbrev pub invariant-loop-at : goal.invariant-loop-at
invariant-loop-at l = (done : List ℕ) × (l.field ≡ done ++ l.rest) × (l.text.items ≡ l.fn.text.items ++ (34 ∷ escaped row_setup done))

abbrev pub decreases-loop-at : goal.decreases-loop-at
decreases-loop-at l = length l.rest
