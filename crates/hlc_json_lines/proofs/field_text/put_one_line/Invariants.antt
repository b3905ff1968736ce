use Rattle.std.proofs.Common.{◌≡◌, ◌++◌, ℕ, List, length}
use Rattle.hlc_json_lines.specs.FieldText.{one_line}
use Rattle.hlc_json_lines.proofs.field_text.put_one_line.Given as goal

abbrev pub invariant-loop-at : goal.invariant-loop-at
invariant-loop-at l = (done : List ℕ) × (l.text ≡ done ++ l.rest) × (l.field.items ≡ l.fn.field.items ++ one_line done)

abbrev pub decreases-loop-at : goal.decreases-loop-at
decreases-loop-at l = length l.rest
