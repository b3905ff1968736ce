-- Lists of numbers in the fields of a record.
use Rattle.std.specs.Prelude.{◌≡◌, ℕ, IfOk, List, [], ◌∷◌, Option, Some, None, Result, Vec, map, option_map}
use Rattle.std.specs.Borrow.{Bor}
use Rattle.std.specs.Fn.{FnReturnsAt, Shared}
use Rattle.std.specs.declared.alloc.Global.{Global}
use Rattle.hlc_csv.specs.Rows.{Fields}

-- a number before others, if all are there
abbrev pub number_before : Option ℕ → Option (List ℕ) → Option (List ℕ)
number_before (Some n) (Some numbers) = Some (n ∷ numbers)
number_before (Some n) None = None
number_before None numbers = None

-- the numbers of fields, if each field has one
abbrev pub numbers_in : (number : List ℕ → Option ℕ) → Fields → Option (List ℕ)
numbers_in number [] = Some []
numbers_in number (field ∷ fields) = number_before (number field) (numbers_in number fields)

-- what a function finds in a field has the value of the field's number, and it finds nothing if the field has none
abbrev pub ReadsAsNumbers : {F N : Type 0} → Shared F (Bor (List ℕ) × Unit {0}) (Option N) → F → (N → ℕ) → (List ℕ → Option ℕ) → Type 0
ReadsAsNumbers {F} {N} call read value number =
    (field : List ℕ) (found : Option N) → FnReturnsAt call read field found → option_map value found ≡ number field

-- a list is found in fields if each of them has a number, and the values of what is found are these numbers: this holds for any value
-- and any number by which a field is read
abbrev pub FindsNumbers : {F N E : Type 0} → Shared F (Bor (List ℕ) × Unit {0}) (Option N) → F → Fields → Result (Option (Vec N Global)) E → Type 0
FindsNumbers {F} {N} call read fields answer = (value : N → ℕ) (number : List ℕ → Option ℕ) → ReadsAsNumbers call read value number →
    IfOk answer (λ found. option_map (λ list. map value list.items) found ≡ numbers_in number fields)
