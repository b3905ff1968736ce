-- Which column of a stamp is badly written.
use Rattle.std.specs.Prelude.{ℕ, List, if◌then◌else◌, is_some}
use Rattle.hlc_csv.specs.Number.{number_of}
use Rattle.hlc_log_text.specs.declared.log_column.LogColumn.{LogColumn}
use Rattle.hlc_log_text.specs.declared.log_column.LogColumn.TheVariants as column
use Rattle.hlc_log_text.specs.declared.stamp_form.StampForm.{StampForm}
use Rattle.hlc_log_text.specs.declared.stamp_form.StampForm.TheVariants.{Dotted, Packed, Pair}

-- of a stamp that is badly written, by the first of its fields: where a stamp is two fields, the column of l if that is no number, and else that of c
abbrev pub bad_of_stamp : StampForm → List ℕ → LogColumn
bad_of_stamp Pair first = if is_some (number_of first) then column.C else column.L
bad_of_stamp Dotted first = column.Stamp
bad_of_stamp (Packed p) first = column.Stamp

-- the same of a stamp that a message carried
abbrev pub bad_of_carried : StampForm → List ℕ → LogColumn
bad_of_carried Pair first = if is_some (number_of first) then column.CarriedC else column.CarriedL
bad_of_carried Dotted first = column.Carried
bad_of_carried (Packed p) first = column.Carried
