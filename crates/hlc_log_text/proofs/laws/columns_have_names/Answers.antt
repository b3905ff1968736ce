use Rattle.std.proofs.Common.{◌≡◌, Some, refl}
use Rattle.hlc_log_text.specs.LogColumn.{column_name, column_named}
use Rattle.hlc_log_text.specs.declared.log_column.LogColumn.{LogColumn}
use Rattle.hlc_log_text.specs.declared.log_column.LogColumn.TheVariants as column
use Rattle.hlc_log_text.proofs.laws.columns_have_names.Goals as goal

of_its_name : (column : LogColumn) → column_named (column_name column) ≡ Some column
of_its_name column.Kind = refl
of_its_name column.Node = refl
of_its_name column.Reading = refl
of_its_name column.L = refl
of_its_name column.C = refl
of_its_name column.Stamp = refl
of_its_name column.Message = refl
of_its_name column.From = refl
of_its_name column.Carried = refl
of_its_name column.CarriedL = refl
of_its_name column.CarriedC = refl
of_its_name column.Seq = refl
of_its_name column.Label = refl

pub returns-clause-names : goal.returns-clause-names
returns-clause-names c = of_its_name

pub returns-clause-order : goal.returns-clause-order
returns-clause-order c = refl
