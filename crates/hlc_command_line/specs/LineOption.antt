-- The options of a subcommand: whole numbers, texts, and flags.
use Rattle.std.specs.Prelude.{◌≡◌, ◌≢◌, Bool, false, ⊤, List, [], ◌∷◌, None, Some, fold, if◌then◌else◌}
use Rattle.std.specs.List.{AllByRecursion}
use Rattle.clap.specs.Takes.{is_given}
use Rattle.clap.specs.Values.{bool_text}
use Rattle.clap.specs.Words.{App, Row, Rule, Text, first_of, new_rule, one_of, with_rule}
use Rattle.clap.specs.declared.builder.action.ArgAction.TheVariants.{Append, SetTrue}
use Rattle.clap.specs.declared.builder.value_parser.ValueParser.{ValueParser}
use Rattle.clap.specs.declared.builder.value_parser.ValueParser.TheVariants as vp
use Rattle.hlc_command_line.specs.NumberOption.{HasNumber, IsSigned, NumberOption, value_rule}

-- an option: a whole number; a text, which need not be given; any number of texts; or a flag. The latter three have only a name
pub data LineOption : Type 0 where
  number : NumberOption → LineOption
  word : Text → LineOption
  many : Text → LineOption
  flag : Text → LineOption

abbrev pub option_name : LineOption → Text
option_name (number o) = o.name
option_name (word name) = name
option_name (many name) = name
option_name (flag name) = name

-- `--NAME`
abbrev pub flag_rule : Text → Rule
flag_rule name = record (new_rule name) { long = Some name; action = Some SetTrue }

-- `--NAME VALUE`, any number of times
abbrev pub many_rule : Text → ValueParser → Rule
many_rule name parser = record (new_rule name) { long = Some name; action = Some Append; value_names = 1; parser = Some parser }

abbrev pub option_rule : LineOption → Rule
option_rule (number o) = value_rule o.name o.parser o.required
option_rule (word name) = value_rule name vp.String false
option_rule (many name) = many_rule name vp.String
option_rule (flag name) = flag_rule name

-- the command with these options as well
abbrev pub with_options : List LineOption → App → App
with_options os a = fold (λ a o. with_rule a (option_rule o)) a os

-- whether a flag is set: it is if it was given
abbrev pub IsFlagOf : List Row → Text → Bool → Type 0
IsFlagOf rows name set = set ≡ is_given name rows

-- whether an option was given with this word: if not, it was not given
abbrev pub IsWordOf : List Row → (name word : Text) → Bool → Type 0
IsWordOf rows name w given = first_of name rows ≡ (if given then Some w else None)

-- an option was given with another word than this
abbrev pub IsOtherWord : List Row → (name word : Text) → Type 0
IsOtherWord rows name w = (text : Text) × (first_of name rows ≡ Some text) × (text ≢ w)

-- the option takes no number, or was given without a sign
abbrev pub IsUnsigned : List Row → LineOption → Type 0
IsUnsigned rows (number o) = ¬ IsSigned rows o.name
IsUnsigned rows _ = ⊤

-- so is each of the options
abbrev pub AreUnsigned : List Row → List LineOption → Type 0
AreUnsigned rows os = AllByRecursion (IsUnsigned rows) os

-- a flag is read as set just if it was given
abbrev pub HasFlag : List Row → Text → Type 0
HasFlag rows name = one_of name rows ≡ Some (bool_text (is_given name rows))

-- the option is read as what was given
abbrev pub HasOption : List Row → LineOption → Type 0
HasOption rows (number o) = HasNumber rows o
HasOption rows (word name) = ⊤
HasOption rows (many name) = ⊤
HasOption rows (flag name) = HasFlag rows name

-- the same of each option
abbrev pub HaveOptions : List Row → List LineOption → Type 0
HaveOptions rows [] = ⊤
HaveOptions rows (o ∷ os) = HasOption rows o × HaveOptions rows os

-- the same, unless a number was given with a sign
abbrev pub HaveUnlessSigned : List Row → List LineOption → Type 0
HaveUnlessSigned rows os = AreUnsigned rows os → HaveOptions rows os
