-- The states and the actions of the machine are those of csv's.
use Rattle.std.specs.Prelude.{Bool, true, false, not}
use Rattle.csv.specs.declared.parser.Action.{Action}
use Rattle.csv.specs.declared.parser.Action.TheVariants as act
use Rattle.csv.specs.declared.parser.State.{State}
use Rattle.csv.specs.declared.parser.State.TheVariants as st
use Rattle.hlc_csv.specs.RecordLines.{is_between}
use Rattle.hlc_csv.specs.declared.parser_state.ParserAction.{ParserAction}
use Rattle.hlc_csv.specs.declared.parser_state.ParserAction.TheVariants as action
use Rattle.hlc_csv.specs.declared.parser_state.ParserState.{ParserState}
use Rattle.hlc_csv.specs.declared.parser_state.ParserState.TheVariants as state

abbrev pub csv_state : ParserState → State
csv_state state.StartRecord = st.StartRecord
csv_state state.AfterCr = st.AfterCr
csv_state state.StartField = st.StartField
csv_state state.InField = st.InField
csv_state state.InQuoted = st.InQuoted
csv_state state.AfterQuote = st.AfterQuote

abbrev pub csv_action : ParserAction → Action
csv_action action.Skip = act.Skip
csv_action action.Copy = act.Copy
csv_action action.EndField = act.EndField
csv_action action.EndRecord = act.EndRecord

abbrev pub csv_step : ParserState × ParserAction → State × Action
csv_step s = (csv_state s.0, csv_action s.1)

-- whether a record is under way
abbrev pub is_inside : ParserState → Bool
is_inside s = not (is_between (csv_state s))

-- whether the field under way was opened by a quotation mark that isn't closed yet
abbrev pub is_quoted : ParserState → Bool
is_quoted state.StartRecord = false
is_quoted state.AfterCr = false
is_quoted state.StartField = false
is_quoted state.InField = false
is_quoted state.InQuoted = true
is_quoted state.AfterQuote = false

-- whether a field without quotation marks is under way, or begins unless a quotation mark follows
abbrev pub is_plain : ParserState → Bool
is_plain state.StartRecord = false
is_plain state.AfterCr = false
is_plain state.StartField = true
is_plain state.InField = true
is_plain state.InQuoted = false
is_plain state.AfterQuote = false
