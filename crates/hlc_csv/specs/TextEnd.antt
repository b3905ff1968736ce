-- Where a text ends: in a record whose last field nothing closes, or not.
use Rattle.std.specs.Prelude.{◌≡◌, ℕ, List, [], ◌∷◌, Option, Some, None}
use Rattle.csv.specs.Machine.{step}
use Rattle.csv.specs.Reading.{default_config, strip_bom}
use Rattle.csv.specs.declared.parser.State.{State}
use Rattle.csv.specs.declared.parser.State.TheVariants as st
use Rattle.hlc_csv.specs.Records.{AreAllOf}
use Rattle.hlc_csv.specs.Rows.{Fields}

-- the state of csv's machine after bytes
abbrev pub state_after : State → List ℕ → State
state_after s [] = s
state_after s (b ∷ bytes) = state_after (step default_config s b).0 bytes

-- bytes end within a field that begins with a quotation mark: nothing closes it
abbrev pub IsOpen : List ℕ → Type 0
IsOpen bytes = state_after st.StartRecord (strip_bom bytes) ≡ st.InQuoted

-- bytes, if they are known, don't end within such a field
abbrev pub IsClosed : Option (List ℕ) → Type 0
IsClosed None = Unit {0}
IsClosed (Some bytes) = ¬ IsOpen bytes

-- if bytes are known, these are all their records, and nothing closes the last field of the last one
abbrev pub EndOpen : Option (List ℕ) → List Fields → Type 0
EndOpen None records = Unit {0}
EndOpen (Some bytes) records = AreAllOf (Some bytes) records × IsOpen bytes

-- the opposite, if bytes are known
abbrev pub DoNotEndOpen : Option (List ℕ) → List Fields → Type 0
DoNotEndOpen None records = Unit {0}
DoNotEndOpen (Some bytes) records = ¬ EndOpen (Some bytes) records
