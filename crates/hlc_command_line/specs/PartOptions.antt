-- What the options of a part of a history or a log say, whatever names its events.
use Rattle.std.specs.Prelude.{◌≡◌, ◌⊎◌, IsSome, None, Option, Some, false, true, unwrap_or}
use Rattle.hlc_command_line.specs.declared.drawn_part.DrawnPart.{DrawnPart}
use Rattle.hlc_command_line.specs.declared.drawn_part.DrawnPart.TheVariants.{Chain, Rows}
use Rattle.hlc_command_line.specs.declared.drawn_part.DrawnRows.{DrawnRows}
use Rattle.hlc_command_line.specs.declared.drawn_part.DrawnRows.TheVariants.{Around, Between}
use Rattle.hlc_command_line.specs.declared.drawn_part.TheConstants.{USUAL_ROWS}
use Rattle.hlc_command_line.specs.declared.line_fault.PartMistake.{PartMistake}
use Rattle.hlc_command_line.specs.declared.line_fault.PartMistake.TheVariants as mistake
use Rattle.hlc_command_line.specs.declared.part_options.PartOptions.{PartOptions}

-- options say which rows are drawn: those from one event to another, or as many about an event as are given, or 40
abbrev pub SayRows : {E : Type 0} → PartOptions E → DrawnRows E → Type 0
SayRows options (Between first last) =
    (options.from ≡ first) × (options.to ≡ last) × (options.around ≡ None) × (options.rows ≡ None)
SayRows options (Around event number) =
    (options.around ≡ Some event) × (number ≡ unwrap_or options.rows USUAL_ROWS) × (options.from ≡ None) × (options.to ≡ None)

-- they say what is drawn: some rows, or with `--only-chain` no rows but the chain that is explained
abbrev pub SayPart : {E : Type 0} → PartOptions E → DrawnPart E → Type 0
SayPart options (Rows rows explained) = SayRows options rows × (options.explained ≡ explained) × (options.only_chain ≡ false)
SayPart options (Chain event) = SayRows options (Between None None) × (options.explained ≡ Some event) × (options.only_chain ≡ true)

-- they say nothing that can be drawn: `--rows` is given without `--around`, or this with `--from` or `--to`; or `--only-chain` without `--explain`, or with
-- an option of rows
abbrev pub SayNone : {E : Type 0} → PartOptions E → PartMistake → Type 0
SayNone options mistake.RowsAlone = IsSome options.rows × (options.around ≡ None)
SayNone options mistake.AroundBetween = IsSome options.around × (IsSome options.from ⊎ IsSome options.to)
SayNone options mistake.ChainOfNone = (options.only_chain ≡ true) × (options.explained ≡ None)
SayNone options mistake.ChainAndRows =
    (options.only_chain ≡ true) × (IsSome options.around ⊎ (IsSome options.from ⊎ IsSome options.to))
SayNone options (mistake.NoLine option) = ⊥
