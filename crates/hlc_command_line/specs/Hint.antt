-- What else the user is told of arguments that are refused.
use Rattle.std.specs.Prelude.{◌≡◌}
use Rattle.clap.specs.Words.{Text}
use Rattle.hlc_command_line.specs.declared.hint.Hint.{Hint}
use Rattle.hlc_command_line.specs.declared.hint.Hint.TheVariants as hint

-- the user is told a range of the option of this name
abbrev pub IsRangeOf : (name : Text) → Hint → Type 0
IsRangeOf name (hint.Range option least most) = option.now ≡ name
IsRangeOf name (hint.Input command) = ⊥
