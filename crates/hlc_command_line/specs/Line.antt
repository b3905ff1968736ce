-- The command line of `hlc`.
use Rattle.std.specs.Prelude.{◌≡◌, ◌≢◌, ◌⊎◌, ◌<◌, ◌-◌, ◌^◌, if◌then◌else◌, ℕ, false, true, ⊤, List, [], ◌∷◌, ◌++◌, Option, None, Some, codes, find, fold, option_map, unwrap_or}
use Rattle.std.specs.Borrow.{Bor}
use Rattle.std.specs.Option.{IsSomeAnd}
use Rattle.std.specs.Str.{bytes_eq}
use Rattle.clap.specs.Kinds.{IsAmong, Kinds}
use Rattle.clap.specs.Faults.{fault_of}
use Rattle.clap.specs.Values.{kind_of}
use Rattle.clap.specs.Words.{App, Row, Text, first_of, subcommand_of, takes, with_subcommand}
use Rattle.hlc_stamp.specs.declared.id.EventId.{EventId}
use Rattle.hlc_stamp.specs.declared.limits.TheConstants.{MAX_CAPACITY, MAX_DRIFT_LIMIT, MAX_NODES, MAX_SEED, MAX_STEPS, MIN_CAPACITY, MIN_NODES, MIN_STEPS}
use Rattle.hlc_stamp.specs.declared.settings.Settings.{Settings}
use Rattle.hlc_causality.specs.declared.receives.Receives.{Receives}
use Rattle.hlc_causality.specs.declared.receives.Receives.TheVariants as at_receives
use Rattle.hlc_log_text.specs.declared.fault_rule.FaultRule.{FaultRule}
use Rattle.hlc_log_text.specs.declared.fault_rule.FaultRule.TheVariants.{First, LeaveOut, TellEach}
use Rattle.hlc_log_text.specs.declared.log_rules.LogRules.{LogRules}
use Rattle.hlc_log_text.specs.declared.stamp_form.StampForm.{StampForm}
use Rattle.hlc_log_text.specs.declared.stamp_form.StampForm.TheVariants.{Dotted, Packed, Pair}
use Rattle.hlc_json_lines.specs.Rules.{field_of_text, kind_of_text}
use Rattle.hlc_command_line.specs.Asked.{AreBeside, AsksNeither, ask, texts_of_option}
use Rattle.hlc_command_line.specs.JsonOptions.{IsJsonOf, IsSyntaxOf, LacksMeaning, field, is_json_given, jsonl, kind}
use Rattle.hlc_command_line.specs.LineOption.{HaveOptions, HaveUnlessSigned, IsFlagOf, IsOtherWord, IsWordOf, LineOption, flag, many, number, word}
use Rattle.hlc_command_line.specs.LogLine.{IsLineOption, TellPart, TellsNoLine, around_line, explained_line, first_line, last_line}
use Rattle.hlc_command_line.specs.NumberOption.{IsNumberOf, IsOptionalNumber, IsSignedAmong, NumberOption, optional, signed_option, unsigned_option}
use Rattle.hlc_command_line.specs.PartOptions.{SayNone, SayPart}
use Rattle.hlc_command_line.specs.ResentOption.{IsNoResent, IsResentOf, resent}
use Rattle.hlc_command_line.specs.Rules.{program_app}
use Rattle.hlc_command_line.specs.Subcommand.{Subcommand, app_of_subcommand}
use Rattle.hlc_command_line.specs.UnitOptions.{AreUnitsOf, IsUnitsMistake, l_unit, reading_unit}
use Rattle.hlc_command_line.specs.declared.drawn_part.DrawnPart.{DrawnPart}
use Rattle.hlc_command_line.specs.declared.drawn_part.DrawnPart.TheVariants.{Rows}
use Rattle.hlc_command_line.specs.declared.drawn_part.DrawnRows.TheVariants.{Between}
use Rattle.hlc_command_line.specs.declared.line_fault.LineFault.{LineFault}
use Rattle.hlc_command_line.specs.declared.line_fault.LineFault.TheVariants as fault
use Rattle.hlc_command_line.specs.declared.line_fault.PartMistake.{PartMistake}
use Rattle.hlc_command_line.specs.declared.line_fault.PartMistake.TheVariants as part
use Rattle.hlc_command_line.specs.declared.line_fault.RecordsMistake.{RecordsMistake}
use Rattle.hlc_command_line.specs.declared.line_fault.RecordsMistake.TheVariants as mistake
use Rattle.hlc_command_line.specs.declared.line_order.AuditOptions.{AuditOptions}
use Rattle.hlc_command_line.specs.declared.line_order.DrawLogOptions.{DrawLogOptions}
use Rattle.hlc_command_line.specs.declared.line_order.LogLine.{LogLine}
use Rattle.hlc_command_line.specs.declared.line_order.TheConstants.{USUAL_KEPT}
use Rattle.hlc_command_line.specs.declared.line_order.WatchOptions.{WatchOptions}
use Rattle.hlc_command_line.specs.declared.line_order.Order.{Order}
use Rattle.hlc_command_line.specs.declared.line_order.OutputForm.{OutputForm}
use Rattle.hlc_command_line.specs.declared.line_order.OutputForm.TheVariants as form
use Rattle.hlc_command_line.specs.declared.line_order.Order.TheVariants as order
use Rattle.hlc_command_line.specs.declared.part_options.PartOptions.{PartOptions}
use Rattle.hlc_command_line.specs.declared.subcommand_rule.SubcommandName.{SubcommandName}
use Rattle.hlc_command_line.specs.declared.subcommand_rule.SubcommandName.TheVariants as named

abbrev pub nodes : NumberOption
nodes = signed_option (codes "nodes") MIN_NODES MAX_NODES

abbrev pub capacity : NumberOption
capacity = signed_option (codes "capacity") MIN_CAPACITY MAX_CAPACITY

abbrev pub steps : NumberOption
steps = signed_option (codes "steps") MIN_STEPS MAX_STEPS

abbrev pub seed : NumberOption
seed = unsigned_option (codes "seed") 0 MAX_SEED

abbrev pub limit : NumberOption
limit = optional (unsigned_option (codes "limit") 0 MAX_DRIFT_LIMIT)

-- the number of an event, which need not be given
abbrev pub event_number : Text → NumberOption
event_number name = optional (unsigned_option name 0 MAX_CAPACITY)

abbrev pub explain : NumberOption
explain = event_number (codes "explain")

abbrev pub from : NumberOption
from = event_number (codes "from")

abbrev pub to : NumberOption
to = event_number (codes "to")

abbrev pub around : NumberOption
around = event_number (codes "around")

-- a number from 1 on, which need not be given
abbrev pub positive : Text → NumberOption
positive name = optional (unsigned_option name 1 (2 ^ 32 - 1))

-- how many rows about an event are drawn
abbrev pub rows_around : NumberOption
rows_around = positive (codes "rows")

-- how many messages a watch remembers, and after how many events each it sums up
abbrev pub keep : NumberOption
keep = positive (codes "keep")

abbrev pub every : NumberOption
every = positive (codes "every")

abbrev pub only_chain : Text
only_chain = codes "only-chain"

abbrev pub vector : Text
vector = codes "vector"

-- the number of low bits in which c stands
abbrev pub packed : NumberOption
packed = optional (unsigned_option (codes "packed") 1 32)

abbrev pub dotted : Text
dotted = codes "dotted"

-- within how much of its clock a reading is known
abbrev pub tolerance : NumberOption
tolerance = optional (unsigned_option (codes "tolerance") 0 MAX_DRIFT_LIMIT)

-- what clocks do at receives, and the words for it
abbrev pub receives : Text
receives = codes "receives"

abbrev pub receives_word : Receives → Text
receives_word at_receives.Tick = codes "tick"
receives_word at_receives.Merge = codes "merge"
receives_word at_receives.MergeClock = codes "merge-clock"

abbrev pub unsent : Text
unsent = codes "unsent"

abbrev pub lenient : Text
lenient = codes "lenient"

abbrev pub all_faults : Text
all_faults = codes "all-faults"

abbrev pub strict : Text
strict = codes "strict"

abbrev pub report : Text
report = codes "report"

abbrev pub groups : Text
groups = codes "groups"

-- how what an audit finds is written, and the words for it
abbrev pub output : Text
output = codes "output"

abbrev pub output_word : OutputForm → Text
output_word form.Csv = codes "csv"
output_word form.Json = codes "json"
output_word form.Text = codes "text"

-- the options of a cluster's settings
abbrev pub settings_options : List LineOption
settings_options = number nodes ∷ number capacity ∷ number limit ∷ []

abbrev pub subcommand_run : Subcommand
subcommand_run = record { name = codes "run"; options = settings_options }

-- what of a history is drawn
abbrev pub history_options : List LineOption
history_options =
    number explain ∷ number from ∷ number to ∷ number around ∷ number rows_around ∷ flag only_chain ∷ []

abbrev pub draw_options : List LineOption
draw_options = settings_options ++ history_options

abbrev pub subcommand_draw : Subcommand
subcommand_draw = record { name = codes "draw"; options = draw_options }

abbrev pub subcommand_trace : Subcommand
subcommand_trace = record { name = codes "trace"; options = settings_options ++ flag vector ∷ [] }

abbrev pub subcommand_judge : Subcommand
subcommand_judge = record { name = codes "judge"; options = [] }

-- how the records of a log are read
abbrev pub record_options : List LineOption
record_options =
    number packed ∷ flag dotted ∷ number tolerance ∷ word receives ∷ word unsent ∷ word resent ∷ flag lenient ∷ flag all_faults ∷ flag jsonl
    ∷ many field ∷ many kind ∷ word reading_unit ∷ word l_unit ∷ []

-- how a log is read and audited
abbrev pub log_options : List LineOption
log_options = record_options ++ flag strict ∷ number limit ∷ many ask ∷ flag report ∷ flag groups ∷ word output ∷ []

abbrev pub subcommand_audit : Subcommand
subcommand_audit = record { name = codes "audit"; options = log_options }

-- how a log is read and watched
abbrev pub watch_options : List LineOption
watch_options =
    number packed ∷ flag dotted ∷ number tolerance ∷ word receives ∷ flag lenient ∷ flag jsonl ∷ many field ∷ many kind ∷ word reading_unit ∷ word l_unit
    ∷ flag strict ∷ number limit ∷ number keep ∷ number every ∷ []

abbrev pub subcommand_watch : Subcommand
subcommand_watch = record { name = codes "watch"; options = watch_options }

-- what of a log is drawn
abbrev pub part_options : List LineOption
part_options =
    word explained_line ∷ word first_line ∷ word last_line ∷ word around_line ∷ number rows_around ∷ flag only_chain ∷ []

-- how a log is read, and what of it is drawn
abbrev pub draw_log_options : List LineOption
draw_log_options = record_options ++ part_options

abbrev pub subcommand_draw_log : Subcommand
subcommand_draw_log = record { name = codes "draw-log"; options = draw_log_options }

abbrev pub subcommand_vectors : Subcommand
subcommand_vectors = record { name = codes "vectors"; options = record_options }

-- the options of a seeded script
abbrev pub seeded_options : List LineOption
seeded_options = number nodes ∷ number steps ∷ number seed ∷ []

abbrev pub subcommand_storm : Subcommand
subcommand_storm = record { name = codes "storm"; options = seeded_options }

abbrev pub subcommand_threads : Subcommand
subcommand_threads = record { name = codes "threads"; options = seeded_options ++ number limit ∷ [] }

-- the subcommands of `hlc`
abbrev pub subcommands : List Subcommand
subcommands =
    subcommand_run ∷ subcommand_draw ∷ subcommand_trace ∷ subcommand_judge ∷ subcommand_audit ∷ subcommand_watch ∷ subcommand_draw_log
    ∷ subcommand_vectors ∷ subcommand_storm ∷ subcommand_threads ∷ []

-- the options that take numbers
abbrev pub all_numbers : List Text
all_numbers =
    nodes.name ∷ capacity.name ∷ limit.name ∷ steps.name ∷ seed.name ∷ explain.name ∷ from.name ∷ to.name ∷ around.name ∷ rows_around.name
    ∷ packed.name ∷ tolerance.name ∷ keep.name ∷ every.name ∷ []

-- those of them that do so in `draw-log`
abbrev pub draw_log_numbers : List Text
draw_log_numbers = rows_around.name ∷ packed.name ∷ tolerance.name ∷ []

-- those that do so in a subcommand, or maybe in another one
abbrev pub number_names : (subcommand : Text) → List Text
number_names name = if bytes_eq name (codes "draw-log") then draw_log_numbers else all_numbers

-- a command with these subcommands as well
abbrev pub with_each : List Subcommand → App → App
with_each subs a = fold (λ a s. with_subcommand a (app_of_subcommand s).top) a subs

-- the command `hlc`
abbrev pub line_app : App
line_app = with_each subcommands program_app

-- the subcommand of a name
abbrev pub subcommand_named : SubcommandName → Subcommand
subcommand_named named.Run = subcommand_run
subcommand_named named.Draw = subcommand_draw
subcommand_named named.Trace = subcommand_trace
subcommand_named named.Judge = subcommand_judge
subcommand_named named.Audit = subcommand_audit
subcommand_named named.Watch = subcommand_watch
subcommand_named named.DrawLog = subcommand_draw_log
subcommand_named named.Vectors = subcommand_vectors
subcommand_named named.Storm = subcommand_storm
subcommand_named named.Threads = subcommand_threads

-- the settings are the values of the options, and have a limit if one is given
pub record AreSettings (rows : List Row) (settings : Settings) : Type 0 where
  pub nodes_is : IsNumberOf rows nodes settings.nodes
  pub capacity_is : IsNumberOf rows capacity settings.capacity
  pub limit_is : IsOptionalNumber rows limit settings.limit

-- the numbers of a seeded script are the values of its three options
pub record AreSeeded (rows : List Row) (node_count step_count number : ℕ) : Type 0 where
  pub nodes_is : IsNumberOf rows nodes node_count
  pub steps_is : IsNumberOf rows steps step_count
  pub seed_is : IsNumberOf rows seed number

-- an option names an event by its number, if the option is given
abbrev pub IsOptionalEvent : List Row → NumberOption → Option EventId → Type 0
IsOptionalEvent rows o event = IsOptionalNumber rows o (option_map (λ e. e.0) event)

-- what each option of a part is given, where an option of a name names an event, or is left out, by `Names`
pub record ArePartOptions {E : Type 0} (rows : List Row) (Names : Text → Option E → Type 0) (given : PartOptions E) : Type 0 where
  pub explained_is : Names (codes "explain") given.explained
  pub from_is : Names (codes "from") given.from
  pub to_is : Names (codes "to") given.to
  pub around_is : Names (codes "around") given.around
  pub rows_are : IsOptionalNumber rows rows_around given.rows
  pub only_chain_is : IsFlagOf rows only_chain given.only_chain

-- of a part of a history options name events by their numbers
abbrev pub AreEventOptions : List Row → PartOptions EventId → Type 0
AreEventOptions rows given = ArePartOptions rows (λ name event. IsOptionalEvent rows (event_number name) event) given

-- what of a history is drawn: what these options say
abbrev pub IsHistoryPart : List Row → DrawnPart EventId → Type 0
IsHistoryPart rows drawn = (given : PartOptions EventId) × AreEventOptions rows given × SayPart given drawn

-- stamps are packed and dotted
abbrev pub AreTwoForms : List Row → Type 0
AreTwoForms rows = (bits : ℕ) × IsNumberOf rows packed bits × IsFlagOf rows dotted true

-- the form of stamps: two fields, unless they are packed or dotted
abbrev pub IsFormOf : List Row → StampForm → Type 0
IsFormOf rows Pair = (first_of packed.name rows ≡ None) × IsFlagOf rows dotted false
IsFormOf rows Dotted = (first_of packed.name rows ≡ None) × IsFlagOf rows dotted true
IsFormOf rows (Packed packed_bits) = IsNumberOf rows packed packed_bits.bits × IsFlagOf rows dotted false

-- a number is that of an option, or the usual one if the option is left out
abbrev pub IsNumberOr : List Row → NumberOption → (usual n : ℕ) → Type 0
IsNumberOr rows o usual n = (given : Option ℕ) × IsOptionalNumber rows o given × (n ≡ unwrap_or given usual)

-- what clocks do at receives is told by the word that was given: they tick if none was
abbrev pub IsReceivesOf : List Row → Receives → Type 0
IsReceivesOf rows given = unwrap_or (first_of receives rows) (codes "tick") ≡ receives_word given

-- a word was given that tells none of it
abbrev pub IsNoReceives : List Row → Type 0
IsNoReceives rows = (text : Text) × (first_of receives rows ≡ Some text) × ((given : Receives) → text ≢ receives_word given)

-- how what is found is written is told by the word that was given: as CSV if none was
abbrev pub IsOutputOf : List Row → OutputForm → Type 0
IsOutputOf rows given = unwrap_or (first_of output rows) (codes "csv") ≡ output_word given

-- a word was given that tells no form
abbrev pub IsNoOutput : List Row → Type 0
IsNoOutput rows = (text : Text) × (first_of output rows ≡ Some text) × ((given : OutputForm) → text ≢ output_word given)

-- bad records are left out just if `--lenient` was given, and each is told just if `--all-faults` was
abbrev pub IsFaultRuleOf : List Row → FaultRule → Type 0
IsFaultRuleOf rows First = IsFlagOf rows lenient false × IsFlagOf rows all_faults false
IsFaultRuleOf rows LeaveOut = IsFlagOf rows lenient true × IsFlagOf rows all_faults false
IsFaultRuleOf rows TellEach = IsFlagOf rows lenient false × IsFlagOf rows all_faults true

-- how records are read is what was given: readings are exact if no tolerance is
pub record AreLogRules (rows : List Row) (given : LogRules) : Type 0 where
  pub form_is : IsFormOf rows given.form
  pub tolerance_is : IsNumberOr rows tolerance 0 given.tolerance
  pub receives_are : IsReceivesOf rows given.receives
  pub unsent_is : IsWordOf rows unsent (codes "local") given.unsent_local
  pub resent_is : IsResentOf rows given.resent
  pub faults_are : IsFaultRuleOf rows given.faults
  pub syntax_is : IsSyntaxOf rows given.syntax
  pub units_are : AreUnitsOf rows given.units

-- what of how records are read no order says: `--field` or `--kind` is given without `--jsonl`, or with a text that says none; or `--resent` with a word
-- other than `first` and `last`; or `--lenient` with `--all-faults`; or there are no units
abbrev pub IsRecordsMistake : List Row → RecordsMistake → Type 0
IsRecordsMistake rows mistake.WithoutJson = IsFlagOf rows jsonl false × (is_json_given rows ≡ true)
IsRecordsMistake rows mistake.Field = LacksMeaning field_of_text (texts_of_option rows field)
IsRecordsMistake rows mistake.Kind = LacksMeaning kind_of_text (texts_of_option rows kind)
IsRecordsMistake rows mistake.Resent = IsNoResent rows
IsRecordsMistake rows mistake.Faults = IsFlagOf rows lenient true × IsFlagOf rows all_faults true
IsRecordsMistake rows m = IsUnitsMistake (first_of reading_unit rows) (first_of l_unit rows) m

-- no rules say how records are read: stamps have two forms, or `--receives` has another word than `tick`, `merge` and `merge-clock`, or `--unsent`
-- another one than `local`, or no records are read so
abbrev pub IsRulesMistake : List Row → LineFault → Type 0
IsRulesMistake rows fault.Forms = AreTwoForms rows
IsRulesMistake rows fault.Receives = IsNoReceives rows
IsRulesMistake rows fault.Unsent = IsOtherWord rows unsent (codes "local")
IsRulesMistake rows (fault.Records m) = IsRecordsMistake rows m
IsRulesMistake rows _ = ⊥

-- the options of `audit` are what was given
pub record AreAuditOptions (rows : List Row) (given : AuditOptions) : Type 0 where
  pub records_are : AreLogRules rows given.records
  pub strict_is : IsFlagOf rows strict given.strict
  pub limit_is : IsOptionalNumber rows limit given.limit
  pub report_is : IsFlagOf rows report given.report
  pub groups_are : IsFlagOf rows groups given.groups
  pub output_is : IsOutputOf rows given.output

-- bad records are left out just if `--lenient` was given
abbrev pub IsLeftOutOf : List Row → FaultRule → Type 0
IsLeftOutOf rows First = IsFlagOf rows lenient false
IsLeftOutOf rows LeaveOut = IsFlagOf rows lenient true
IsLeftOutOf rows TellEach = ⊥

-- how the records of a log that is watched are read is what was given: nothing is said of messages that nobody sends, or that are sent again
pub record AreWatchRules (rows : List Row) (given : LogRules) : Type 0 where
  pub form_is : IsFormOf rows given.form
  pub tolerance_is : IsNumberOr rows tolerance 0 given.tolerance
  pub receives_are : IsReceivesOf rows given.receives
  pub unsent_is : given.unsent_local ≡ false
  pub resent_is : given.resent ≡ None
  pub faults_are : IsLeftOutOf rows given.faults
  pub syntax_is : IsSyntaxOf rows given.syntax
  pub units_are : AreUnitsOf rows given.units

-- the options of `watch` are what was given: 1000000 messages are remembered if no other number is
pub record AreWatchOptions (rows : List Row) (given : WatchOptions) : Type 0 where
  pub records_are : AreWatchRules rows given.records
  pub strict_is : IsFlagOf rows strict given.strict
  pub limit_is : IsOptionalNumber rows limit given.limit
  pub keep_is : IsNumberOr rows keep USUAL_KEPT given.keep
  pub every_is : IsOptionalNumber rows every given.every

-- of a part of a log options name events by the texts of their lines
abbrev pub AreTextOptions : List Row → PartOptions (Bor Text) → Type 0
AreTextOptions rows given = ArePartOptions rows (λ name text. first_of name rows ≡ option_map (λ t. t.now) text) given

-- what of a log is drawn: what these options say, by the lines that their texts tell
abbrev pub IsLogPart : List Row → DrawnPart LogLine → Type 0
IsLogPart rows drawn =
    (given : PartOptions (Bor Text)) × (texts : DrawnPart (Bor Text)) × AreTextOptions rows given × SayPart given texts × TellPart texts drawn

-- the options of `draw-log` are what was given
pub record AreDrawLogOptions (rows : List Row) (given : DrawLogOptions) : Type 0 where
  pub records_are : AreLogRules rows given.records
  pub part_is : IsLogPart rows given.part

-- an order says what clap found: the subcommand of this name with these options
abbrev pub IsOrderOf : Text → List Row → Order → Type 0
IsOrderOf name rows (order.Run settings) = (name ≡ codes "run") × AreSettings rows settings
IsOrderOf name rows (order.Draw settings part) = (name ≡ codes "draw") × AreSettings rows settings × IsHistoryPart rows part
IsOrderOf name rows (order.Trace settings v) = (name ≡ codes "trace") × AreSettings rows settings × IsFlagOf rows vector v
IsOrderOf name rows order.Judge = name ≡ codes "judge"
IsOrderOf name rows (order.Audit options asked json) =
    (name ≡ codes "audit") × AreAuditOptions rows options × AreBeside (texts_of_option rows ask) asked × IsJsonOf rows json
IsOrderOf name rows (order.Watch options json) = (name ≡ codes "watch") × AreWatchOptions rows options × IsJsonOf rows json
IsOrderOf name rows (order.DrawLog options json) = (name ≡ codes "draw-log") × AreDrawLogOptions rows options × IsJsonOf rows json
IsOrderOf name rows (order.Vectors records json) = (name ≡ codes "vectors") × AreLogRules rows records × IsJsonOf rows json
IsOrderOf name rows (order.Storm n k s) = (name ≡ codes "storm") × AreSeeded rows n k s
IsOrderOf name rows (order.Threads n k s l) = (name ≡ codes "threads") × AreSeeded rows n k s × IsOptionalNumber rows limit l

-- the same of the subcommand that was found
abbrev pub IsOrderFound : Option (Text × List Row) → Order → Type 0
IsOrderFound found o = (name : Text) × (rows : List Row) × (found ≡ Some (name, rows)) × IsOrderOf name rows o

-- what of the options of `audit` no order says: no rules say how its records are read, or an `--ask` asks nothing and isn't `-`, or `--output` has a word
-- that is none
abbrev pub IsAuditMistake : List Row → LineFault → Type 0
IsAuditMistake rows fault.Question = AsksNeither (texts_of_option rows ask)
IsAuditMistake rows fault.Output = IsNoOutput rows
IsAuditMistake rows f = IsRulesMistake rows f

-- what of a part of a history no order says: its options say nothing that can be drawn
abbrev pub IsHistoryMistake : List Row → LineFault → Type 0
IsHistoryMistake rows (fault.Part m) = (given : PartOptions EventId) × AreEventOptions rows given × SayNone given m
IsHistoryMistake rows _ = ⊥

-- what of a part of a log no order says: an option of a line has a text that tells none, or the options say nothing that can be drawn
abbrev pub IsPartMistake : List Row → PartMistake → Type 0
IsPartMistake rows (part.NoLine option) = IsLineOption option.now × TellsNoLine rows option.now
IsPartMistake rows m = (given : PartOptions (Bor Text)) × AreTextOptions rows given × SayNone given m

-- what of how a log is to be drawn no order says: no rules say how its records are read, or no part is drawn so
abbrev pub IsLogMistake : List Row → LineFault → Type 0
IsLogMistake rows (fault.Part m) = IsPartMistake rows m
IsLogMistake rows f = IsRulesMistake rows f

-- what of the options of the subcommand of this name no order says: a number with a sign; the others are of `draw`, `audit`, `draw-log`, `vectors` or `watch`
abbrev pub IsMistakeOf : Text → List Row → LineFault → Type 0
IsMistakeOf name rows (fault.Sign option) = IsSignedAmong rows (number_names name) option.now
IsMistakeOf name rows f =
    ((name ≡ codes "draw") × IsHistoryMistake rows f)
    ⊎ (((name ≡ codes "audit") × IsAuditMistake rows f)
    ⊎ (((name ≡ codes "draw-log") × IsLogMistake rows f)
    ⊎ (((name ≡ codes "vectors") × IsRulesMistake rows f) ⊎ ((name ≡ codes "watch") × IsRulesMistake rows f))))

-- the same of the subcommand that was found
abbrev pub IsMistakeFound : Option (Text × List Row) → LineFault → Type 0
IsMistakeFound found f = (name : Text) × (rows : List Row) × (found ≡ Some (name, rows)) × IsMistakeOf name rows f

-- memory was refused, or this is so of the fault
abbrev pub UnlessMemory : (LineFault → Type 0) → LineFault → Type 0
UnlessMemory P fault.Memory = ⊤
UnlessMemory P f = P f

-- the same of the subcommand that was found
abbrev pub IsRefusedFound : Option (Text × List Row) → LineFault → Type 0
IsRefusedFound found f = (name : Text) × (rows : List Row) × (found ≡ Some (name, rows)) × UnlessMemory (IsMistakeOf name rows) f

-- a first event comes after a last one
abbrev pub IsAbove : (first last : Option EventId) → Type 0
IsAbove (Some f) (Some t) = t.0 < f.0
IsAbove _ _ = ⊥

-- an order asks for events that end before they begin
abbrev pub IsTurned : Order → Type 0
IsTurned (order.Draw settings (Rows (Between first last) explained)) = IsAbove first last
IsTurned _ = ⊥

-- the options of the subcommand of this name
abbrev pub options_of : Text → Option (List LineOption)
options_of name = option_map (λ s. s.options) (find (λ s. bytes_eq s.name name) subcommands)

-- the subcommand of this name has its options
abbrev pub HasOptions : Text → List Row → Type 0
HasOptions name rows = IsSomeAnd (options_of name) (HaveOptions rows)

-- the same, unless a number was given with a sign
abbrev pub HasUnlessSigned : Text → List Row → Type 0
HasUnlessSigned name rows = IsSomeAnd (options_of name) (HaveUnlessSigned rows)

-- one of the subcommands was entered, with its options, unless a number was given with a sign
abbrev pub IsEntered : Option (Text × List Row) → Type 0
IsEntered found = (name : Text) × (rows : List Row) × (found ≡ Some (name, rows)) × HasUnlessSigned name rows

-- what clap finds wrong with the arguments
abbrev pub line_faults : List Text → Kinds
line_faults arguments = fault_of line_app arguments

-- clap finds nothing wrong with the arguments, and they ask for events that end before they begin
abbrev pub AskForTurned : List Text → Type 0
AskForTurned arguments = (line_faults arguments ≡ []) × ((o : Order) × IsOrderFound (subcommand_of line_app arguments) o × IsTurned o)

-- clap finds nothing wrong with the arguments, and no order says what they ask for
abbrev pub AskForMistake : List Text → LineFault → Type 0
AskForMistake arguments f = (line_faults arguments ≡ []) × IsMistakeFound (subcommand_of line_app arguments) f

-- why arguments are refused: clap does not take them, and the error is of a kind that it finds in them; they have no order; or
-- their order is turned
abbrev pub IsRefusal : List Text → LineFault → Type 0
IsRefusal arguments (fault.Line e) = (takes line_app arguments ≡ false) × IsAmong (kind_of e) (line_faults arguments)
IsRefusal arguments fault.Forms = AskForMistake arguments fault.Forms
IsRefusal arguments fault.Unsent = AskForMistake arguments fault.Unsent
IsRefusal arguments fault.Question = AskForMistake arguments fault.Question
IsRefusal arguments fault.Receives = AskForMistake arguments fault.Receives
IsRefusal arguments fault.Output = AskForMistake arguments fault.Output
IsRefusal arguments (fault.Sign option) = AskForMistake arguments (fault.Sign option)
IsRefusal arguments (fault.Part m) = AskForMistake arguments (fault.Part m)
IsRefusal arguments (fault.Records m) = AskForMistake arguments (fault.Records m)
IsRefusal arguments fault.Range = AskForTurned arguments
IsRefusal arguments fault.Memory = ⊤
