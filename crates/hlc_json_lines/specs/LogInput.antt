-- The input of a log, in records.
use Rattle.std.specs.Prelude.{ℕ, List, Option}
use Rattle.hlc_json_lines.specs.JsonReader.{json_remaining}
use Rattle.hlc_json_lines.specs.declared.log_input.LogInput.{LogInput}
use Rattle.hlc_json_lines.specs.declared.log_input.LogSource.{LogSource}
use Rattle.hlc_json_lines.specs.declared.log_input.LogSource.TheVariants.{Lines, Records}

-- what each kind of input will give, if it is known
abbrev pub source_remaining : {R : Type 0} → (R → Option (List ℕ)) → LogSource R → Option (List ℕ)
source_remaining remaining (Records reader) = remaining reader
source_remaining remaining (Lines reader) = json_remaining remaining reader

abbrev pub input_remaining : {R : Type 0} → (R → Option (List ℕ)) → LogInput R → Option (List ℕ)
input_remaining remaining input = source_remaining remaining input.source
