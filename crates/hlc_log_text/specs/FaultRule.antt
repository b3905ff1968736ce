-- What becomes of records that are bad.
use Rattle.std.specs.Prelude.{Bool, true, false, Option, ◌&&◌}
use Rattle.std.specs.Option.{is_none}
use Rattle.hlc_log.specs.declared.resent.Resent.{Resent}
use Rattle.hlc_log_text.specs.declared.bad_log.BadLog.{BadLog}
use Rattle.hlc_log_text.specs.declared.bad_log.BadLog.TheVariants as bad
use Rattle.hlc_log_text.specs.declared.fault_rule.FaultRule.{FaultRule}
use Rattle.hlc_log_text.specs.declared.fault_rule.FaultRule.TheVariants as rule

-- whether a record can be left out that is bad for this reason: a header is for all records after it, and an open quotation mark took them in
abbrev pub is_of_record : BadLog → Bool
is_of_record bad.Word = true
is_of_record bad.Header = false
is_of_record (bad.Missing column) = true
is_of_record bad.Fields = true
is_of_record (bad.Number column) = true
is_of_record bad.Line = true
is_of_record (bad.Name column) = true
is_of_record bad.SentTwice = true
is_of_record bad.Cycle = true
is_of_record bad.Node = true
is_of_record bad.Quote = false

-- whether it is left out by a rule, so that the next record is read
abbrev pub leaves_out : FaultRule → BadLog → Bool
leaves_out rule.First why = false
leaves_out rule.LeaveOut why = is_of_record why
leaves_out rule.TellEach why = is_of_record why

-- whether a log is read without its bad records by a rule
abbrev pub leaves_records : FaultRule → Bool
leaves_records rule.First = false
leaves_records rule.LeaveOut = true
leaves_records rule.TellEach = false

-- whether sends of messages that are sent already are left out: bad records are, and it isn't said which send a receive of such a message is of
abbrev pub leaves_sent : FaultRule → Option Resent → Bool
leaves_sent faults resent = leaves_records faults && is_none resent
