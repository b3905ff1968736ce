use Rattle.std.proofs.Common.{◌≡◌, ◌-◌, ◌++◌, drop, flat_map, take}
use Rattle.csv.specs.Records.{fields_of}
use Rattle.hlc_audit_forms.specs.TextPiece.{spaced}
use Rattle.hlc_audit_forms.proofs.plain.put_rest.Given as goal

abbrev pub invariant-loop-place : goal.invariant-loop-place
invariant-loop-place l = l.text.items ≡ l.fn.text.items ++ flat_map spaced (take (l.place - l.fn.start) (drop l.fn.start (fields_of l.row)))
