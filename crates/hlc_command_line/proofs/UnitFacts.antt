-- Why options give no units.
use Rattle.std.proofs.Common.{List}
use Rattle.clap.specs.Walk.{Row, first_of}
use Rattle.hlc_command_line.specs.Line.{IsRecordsMistake}
use Rattle.hlc_command_line.specs.UnitOptions.{IsUnitsMistake, l_unit, reading_unit}
use Rattle.hlc_command_line.specs.declared.line_fault.RecordsMistake.{RecordsMistake}
use Rattle.hlc_command_line.specs.declared.line_fault.RecordsMistake.TheVariants as mistake

-- a mistake in the units is one in how records are read
pub units_mistaken : (rows : List Row) (m : RecordsMistake) → IsUnitsMistake (first_of reading_unit rows) (first_of l_unit rows) m → IsRecordsMistake rows m
units_mistaken rows mistake.WithoutJson is = absurd is
units_mistaken rows mistake.Field is = absurd is
units_mistaken rows mistake.Kind is = absurd is
units_mistaken rows mistake.UnitAlone is = is
units_mistaken rows mistake.ReadingUnit is = is
units_mistaken rows mistake.LUnit is = is
units_mistaken rows mistake.Resent is = absurd is
units_mistaken rows mistake.Faults is = absurd is
