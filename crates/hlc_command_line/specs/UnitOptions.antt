-- The units that `--reading-unit` and `--l-unit` name.
use Rattle.std.specs.Prelude.{◌≡◌, ◌≢◌, List, None, Option, Some, bytes_eq, codes, if◌then◌else◌, is_some, option_and_then}
use Rattle.clap.specs.Words.{Row, Text, first_of}
use Rattle.hlc_log_text.specs.declared.time_unit.TimeUnit.{TimeUnit}
use Rattle.hlc_log_text.specs.declared.time_unit.TimeUnit.TheVariants as unit
use Rattle.hlc_log_text.specs.declared.units.Units.{Units}
use Rattle.hlc_command_line.specs.declared.line_fault.RecordsMistake.{RecordsMistake}
use Rattle.hlc_command_line.specs.declared.line_fault.RecordsMistake.TheVariants as mistake

abbrev pub reading_unit : Text
reading_unit = codes "reading-unit"

abbrev pub l_unit : Text
l_unit = codes "l-unit"

-- the unit of clocks that a word names
abbrev pub clock_unit_named : Text → Option TimeUnit
clock_unit_named word =
    if bytes_eq word (codes "s") then Some unit.Seconds
    else if bytes_eq word (codes "ms") then Some unit.Milliseconds
    else if bytes_eq word (codes "us") then Some unit.Microseconds
    else if bytes_eq word (codes "ns") then Some unit.Nanoseconds
    else None

-- the unit that a word names: one of clocks, or that of NTP
abbrev pub unit_named : Text → Option TimeUnit
unit_named word = if bytes_eq word (codes "ntp64") then Some unit.Ntp64 else clock_unit_named word

-- the units are those that the words name, or there are none, and no words
abbrev pub AreUnitsNamed : (reading l : Option Text) → Option Units → Type 0
AreUnitsNamed reading l None = (reading ≡ None) × (l ≡ None)
AreUnitsNamed reading l (Some units) =
    (option_and_then clock_unit_named reading ≡ Some units.reading) × (option_and_then unit_named l ≡ Some units.l)

-- a word is given that names none of these
abbrev pub IsNoUnit : (named : Text → Option TimeUnit) → Option Text → Type 0
IsNoUnit named given = (word : Text) × (given ≡ Some word) × (named word ≡ None)

-- why there are no units: one of the words is given without the other, or names none
abbrev pub IsUnitsMistake : (reading l : Option Text) → RecordsMistake → Type 0
IsUnitsMistake reading l mistake.UnitAlone = is_some reading ≢ is_some l
IsUnitsMistake reading l mistake.ReadingUnit = IsNoUnit clock_unit_named reading
IsUnitsMistake reading l mistake.LUnit = IsNoUnit unit_named l
IsUnitsMistake reading l _ = ⊥

-- the units of a log are those of the options
abbrev pub AreUnitsOf : List Row → Option Units → Type 0
AreUnitsOf rows given = AreUnitsNamed (first_of reading_unit rows) (first_of l_unit rows) given
