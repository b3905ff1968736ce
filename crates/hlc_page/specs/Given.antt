-- How a log that a page gives is read.
use Rattle.std.specs.Prelude.{◌≡◌, ◌⊎◌, ◌<◌, ◌==◌, ℕ, Bool, List, Option, None, Some, if◌then◌else◌, map, nat_lt, not, slice_get}
use Rattle.std.specs.Borrow.{Bor}
use Rattle.std.specs.Str.{IsUtf8}
use Rattle.hlc_causality.specs.declared.receives.Receives.{Receives}
use Rattle.hlc_causality.specs.declared.receives.Receives.TheVariants.{Merge, MergeClock, Tick}
use Rattle.hlc_log.specs.declared.resent.Resent.{Resent}
use Rattle.hlc_log.specs.declared.resent.Resent.TheVariants as which
use Rattle.hlc_log_text.specs.declared.fault_rule.FaultRule.{FaultRule}
use Rattle.hlc_log_text.specs.declared.fault_rule.FaultRule.TheVariants.{First, LeaveOut, TellEach}
use Rattle.hlc_log_text.specs.declared.log_rules.LogRules.{LogRules}
use Rattle.hlc_log_text.specs.declared.record_syntax.RecordSyntax.{RecordSyntax}
use Rattle.hlc_log_text.specs.declared.record_syntax.RecordSyntax.TheVariants.{Csv, JsonLines}
use Rattle.hlc_log_text.specs.declared.stamp_form.StampForm.{StampForm}
use Rattle.hlc_log_text.specs.declared.stamp_form.StampForm.TheVariants.{Pair, Dotted, Packed}
use Rattle.hlc_log_text.specs.declared.time_unit.TimeUnit.{TimeUnit}
use Rattle.hlc_log_text.specs.declared.time_unit.TimeUnit.TheVariants as unit
use Rattle.hlc_log_text.specs.declared.units.Units.{Units}
use Rattle.hlc_json_lines.specs.Rules.{Rules, field_of_text, kind_of_text, no_rules}
use Rattle.hlc_command_line.specs.Asked.{AsksNothing}
use Rattle.hlc_command_line.specs.JsonOptions.{AddKinds, AddPaths, LacksMeaning}
use Rattle.hlc_command_line.specs.declared.line_fault.LineFault.{LineFault}
use Rattle.hlc_command_line.specs.declared.line_fault.LineFault.TheVariants as line
use Rattle.hlc_page.specs.declared.page_fault.PageFault.{PageFault}
use Rattle.hlc_page.specs.declared.page_fault.PageFault.TheVariants as fault
use Rattle.hlc_page.specs.declared.page_log.PageLog.{PageLog}

-- whether a number says yes: 0 says no
abbrev pub is_set : ℕ → Bool
is_set number = not (number == 0)

-- how stamps are written, as a number: 0 in two fields, 1 to 32 packed with so many bits for c, and any other dotted
abbrev pub IsFormOf : ℕ → StampForm → Type 0
IsFormOf number Pair = number ≡ 0
IsFormOf number Dotted = 32 < number
IsFormOf number (Packed packed_bits) = packed_bits.bits ≡ number

-- what clocks do at receives, as a number: 0 they tick, 1 they merge, and any other they merge with what they read
abbrev pub receives_of : ℕ → Receives
receives_of number = if number == 0 then Tick else if number == 1 then Merge else MergeClock

-- which send of a message that is sent again receives are of, as a number: 0 it isn't said, 1 the first, and any other the last
abbrev pub resent_of : ℕ → Option Resent
resent_of number = if number == 0 then None else if number == 1 then Some which.First else Some which.Last

-- what becomes of bad records, as a number: 0 the first ends the reading, 1 they are left out, and any other each is told
abbrev pub fault_rule_of : ℕ → FaultRule
fault_rule_of number = if number == 0 then First else if number == 1 then LeaveOut else TellEach

-- a unit of clocks, as a number
abbrev pub clock_unit_of : ℕ → TimeUnit
clock_unit_of number =
    if number == 1 then unit.Seconds else if number == 2 then unit.Milliseconds else if number == 3 then unit.Microseconds else unit.Nanoseconds

-- a unit of l, as a number: one of clocks, or that of NTP
abbrev pub l_unit_of : ℕ → TimeUnit
l_unit_of number = if nat_lt number 5 then clock_unit_of number else unit.Ntp64

-- the units of readings and of l, as numbers: with 0 for one of them there are none
abbrev pub units_of : (reading l : ℕ) → Option Units
units_of reading l =
    if reading == 0 then None else if l == 0 then None else Some (record { reading = clock_unit_of reading; l = l_unit_of l })

-- in which syntax the records are, as a number
abbrev pub syntax_of : ℕ → RecordSyntax
syntax_of number = if number == 0 then Csv else JsonLines

-- these are the rules to read the records of a log of which a page gives the numbers
pub record AreRecordsOf (log : PageLog) (records : LogRules) : Type 0 where
  pub syntax_is : records.syntax ≡ syntax_of log.jsonl
  pub form_is : IsFormOf log.stamp_form records.form
  pub units_are : records.units ≡ units_of log.reading_unit log.l_unit
  pub tolerance_is : records.tolerance ≡ log.tolerance
  pub receives_are : records.receives ≡ receives_of log.receives
  pub unsent_is : records.unsent_local ≡ is_set log.unsent_local
  pub resent_is : records.resent ≡ resent_of log.resent
  pub faults_are : records.faults ≡ fault_rule_of log.faults

-- texts that a page gives, as bytes
abbrev pub texts_in : List (Bor (List ℕ)) → List (List ℕ)
texts_in given = map (λ text. text.now) given

-- one of the texts isn't UTF-8
pub record HasNoText (texts : List (List ℕ)) : Type 0 where
  pub place : ℕ
  pub text : List ℕ
  pub given : slice_get texts place ≡ Some text
  pub no_text : ¬ IsUtf8 text

-- lines of JSON are read by what the texts say of their columns, and then of their kinds
abbrev pub AreLinesReadBy : PageLog → Rules → Type 0
AreLinesReadBy log rules =
    (between : Rules) × AddPaths (texts_in log.fields.now) no_rules between × AddKinds (texts_in log.kinds.now) between rules

-- of lines of JSON there are such rules, and of records of CSV none
abbrev pub IsJsonOf : PageLog → Option Rules → Type 0
IsJsonOf log None = log.jsonl ≡ 0
IsJsonOf log (Some rules) = (¬ (log.jsonl ≡ 0)) × AreLinesReadBy log rules

-- a text says nothing of where a column stands, or of which values mean a word
abbrev pub IsJsonMistake : PageLog → Type 0
IsJsonMistake log =
    (HasNoText (texts_in log.fields.now) ⊎ LacksMeaning field_of_text (texts_in log.fields.now))
    ⊎ (HasNoText (texts_in log.kinds.now) ⊎ LacksMeaning kind_of_text (texts_in log.kinds.now))

-- a text asks nothing
abbrev pub IsQuestionMistake : List (List ℕ) → Type 0
IsQuestionMistake texts = HasNoText texts ⊎ AsksNothing texts

-- a fault of the command line as one of a page
abbrev pub page_fault_of : LineFault → PageFault
page_fault_of line.Memory = fault.Memory
page_fault_of _ = fault.Mistake
