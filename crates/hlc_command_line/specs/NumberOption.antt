-- Options whose values are whole numbers.
use Rattle.std.specs.Prelude.{◌≡◌, ◌≤◌, ◌++◌, ℕ, pos, Bool, true, false, List, Option, None, Some, codes, slice_get}
use Rattle.std.specs.Option.{IsSome}
use Rattle.std.specs.Str.Parse.{IsNumeral, digits_value}
use Rattle.clap.specs.Words.{Row, Rule, Text, first_of, new_rule, one_of}
use Rattle.clap.specs.declared.builder.action.ArgAction.TheVariants.{Set}
use Rattle.clap.specs.declared.builder.value_parser.ValueParser.{ValueParser}
use Rattle.clap.specs.declared.builder.value_parser.ValueParser.TheVariants as vp

-- an option whose value is a whole number between these two, with clap's parser of such numbers, and whether it has to be given
pub record NumberOption : Type 0 where
  pub name : Text
  pub low : ℕ
  pub high : ℕ
  pub parser : ValueParser
  pub required : Bool

-- a required number that `i64` can hold
abbrev pub signed_option : Text → ℕ → ℕ → NumberOption
signed_option name low high = record { name = name; low = low; high = high; parser = vp.Signed (pos low) (pos high); required = true }

-- a required number that may need all of `u64`
abbrev pub unsigned_option : Text → ℕ → ℕ → NumberOption
unsigned_option name low high = record { name = name; low = low; high = high; parser = vp.Unsigned low high; required = true }

-- the same option, which need not be given
abbrev pub optional : NumberOption → NumberOption
optional o = record o { required = false }

-- `--NAME VALUE`, and whether it is required
abbrev pub value_rule : Text → ValueParser → Bool → Rule
value_rule name parser required = record (new_rule name) {
  long = Some name;
  action = Some Set;
  value_names = 1;
  required = required;
  parser = Some parser;
}

-- n is the number that this option's text writes in digits alone, and lies between the option's limits
pub record IsNumberOf (rows : List Row) (o : NumberOption) (n : ℕ) : Type 0 where
  pub text : Text
  pub given : first_of o.name rows ≡ Some text
  pub numeral : IsNumeral 10 text
  pub value : n ≡ digits_value 10 text
  pub least : o.low ≤ n
  pub most : n ≤ o.high

-- the same for an option that may be left out: there is a number if and only if it is given
abbrev pub IsOptionalNumber : List Row → NumberOption → Option ℕ → Type 0
IsOptionalNumber rows o None = first_of o.name rows ≡ None
IsOptionalNumber rows o (Some n) = IsNumberOf rows o n

-- the option has such a number, which it may lack only if it is not required, and is read as it was written
abbrev pub HasNumber : List Row → NumberOption → Type 0
HasNumber rows o = (n : Option ℕ) × IsOptionalNumber rows o n × (o.required ≡ true → IsSome n) × (one_of o.name rows ≡ first_of o.name rows)

-- a text begins with a sign, which is a plus: clap takes no minus, since no number here is below 0
abbrev pub HasSign : Text → Type 0
HasSign text = (rest : Text) × (text ≡ codes "+" ++ rest)

-- the option of this name was given with a sign
abbrev pub IsSigned : List Row → (name : Text) → Type 0
IsSigned rows name = (text : Text) × (first_of name rows ≡ Some text) × HasSign text

-- this is one of the names, and its option was given with a sign
pub record IsSignedAmong (rows : List Row) (names : List Text) (name : Text) : Type 0 where
  pub place : ℕ
  pub named : slice_get names place ≡ Some name
  pub signed : IsSigned rows name
