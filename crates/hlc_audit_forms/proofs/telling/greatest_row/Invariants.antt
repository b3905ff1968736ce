use Rattle.std.proofs.Common.{◌≡◌, map, take}
use Rattle.std.specs.Prelude.{option_map}
use Rattle.csv.specs.Records.{fields_of}
use Rattle.hlc_audit_forms.specs.Told.{greatest_row}
use Rattle.hlc_audit_forms.proofs.telling.greatest_row.Given as goal

abbrev pub invariant-loop-row : goal.invariant-loop-row
invariant-loop-row l = option_map (λ r. fields_of r.now) l.found ≡ greatest_row l.word l.place (map fields_of (take l.row-index l.rows))
