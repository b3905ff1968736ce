-- What is said of arguments that give no order.
use Rattle.std.specs.Prelude.{ℕ, ◌++◌, List, None, Option, Some, codes}
use Rattle.hlc_command_line.specs.declared.line_fault.LineFault.{LineFault}
use Rattle.hlc_command_line.specs.declared.line_fault.LineFault.TheVariants as fault
use Rattle.hlc_command_line.specs.declared.line_fault.PartMistake.{PartMistake}
use Rattle.hlc_command_line.specs.declared.line_fault.PartMistake.TheVariants as part
use Rattle.hlc_command_line.specs.declared.line_fault.RecordsMistake.{RecordsMistake}
use Rattle.hlc_command_line.specs.declared.line_fault.RecordsMistake.TheVariants as mistake

-- why no part of a history or a log is drawn so
abbrev pub part_mistake_text : PartMistake → List ℕ
part_mistake_text part.RowsAlone = codes "--rows needs --around"
part_mistake_text part.AroundBetween = codes "--around takes no --from or --to"
part_mistake_text part.ChainOfNone = codes "--only-chain needs --explain"
part_mistake_text part.ChainAndRows = codes "--only-chain takes no --from, --to or --around"
part_mistake_text (part.NoLine option) = codes "--" ++ option.now ++ codes " takes LINE or NAME:LINE, with a LINE of at least 1"

-- why the records of no log are read so
abbrev pub records_mistake_text : RecordsMistake → List ℕ
records_mistake_text mistake.WithoutJson = codes "--field and --kind need --jsonl"
records_mistake_text mistake.Field =
    codes "--field takes NAME=PATH, as l=.hlc.l, of kind, node, reading, l, c, stamp, message, from, carried, carried_l, carried_c, seq or label"
records_mistake_text mistake.Kind = codes "--kind takes WORD=VALUE,VALUE.., as send=posted,sent, of local, send, receive or restart"
records_mistake_text mistake.UnitAlone = codes "--reading-unit and --l-unit need one another"
records_mistake_text mistake.ReadingUnit = codes "--reading-unit takes `s`, `ms`, `us` or `ns`"
records_mistake_text mistake.LUnit = codes "--l-unit takes `s`, `ms`, `us`, `ns` or `ntp64`"
records_mistake_text mistake.Resent = codes "--resent takes `first` or `last`"
records_mistake_text mistake.Faults = codes "--lenient takes no --all-faults: bad records are left out, or each is told"

-- what a fault says; of arguments that clap refuses, the words are clap's
abbrev pub line_fault_text : LineFault → Option (List ℕ)
line_fault_text (fault.Line error) = None
line_fault_text fault.Range = Some (codes "--from is above --to")
line_fault_text fault.Forms = Some (codes "--packed and --dotted are two forms of stamps")
line_fault_text fault.Unsent = Some (codes "--unsent takes only the word `local`")
line_fault_text fault.Receives = Some (codes "--receives takes `tick`, `merge` or `merge-clock`")
line_fault_text (fault.Sign option) = Some (codes "--" ++ option.now ++ codes " takes a whole number without a sign")
line_fault_text fault.Output = Some (codes "--output takes `csv`, `json` or `text`")
line_fault_text fault.Question = Some (codes "--ask takes a question of a log: explain,LINE, check,LINE,LINE.., relation,LINE,LINE, influenced,LINE, drift,NODE, claimed,LINE, event,LINE, why,LINE,LINE, tainted,LINE or first,NODE,RULE; or `-`, if questions follow the log")
line_fault_text (fault.Part m) = Some (part_mistake_text m)
line_fault_text (fault.Records m) = Some (records_mistake_text m)
line_fault_text fault.Memory = Some (codes "out of memory")
