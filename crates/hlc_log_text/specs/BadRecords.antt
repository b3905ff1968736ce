-- Which bad records of a log are told, and where.
use Rattle.std.specs.Prelude.{◌≡◌, List, [], map}
use Rattle.hlc_log_text.specs.declared.bad_log.BadLine.{BadLine}
use Rattle.hlc_log_text.specs.declared.bad_log.BadRecord.{BadRecord}
use Rattle.hlc_log_text.specs.declared.fault_rule.FaultRule.{FaultRule}
use Rattle.hlc_log_text.specs.declared.fault_rule.FaultRule.TheVariants as rule
use Rattle.hlc_log_text.specs.declared.file_mark.FileMark.{FileMark}
use Rattle.hlc_log_text.specs.Files.{location_of}

-- a bad record, told by where it stands in some files
abbrev pub bad_record_on : List FileMark → BadLine → BadRecord
bad_record_on files b = record { location = location_of files b.line; why = b.why }

-- so several
abbrev pub bad_records_on : List FileMark → List BadLine → List BadRecord
bad_records_on files bad = map (bad_record_on files) bad

-- the bad records that are told of those before one that ends the reading: all, if each is to be told
abbrev pub told_before : FaultRule → (before : List BadLine) → List BadLine
told_before rule.First before = []
told_before rule.LeaveOut before = []
told_before rule.TellEach before = before

-- a log has been read though these records of it are bad
abbrev pub MayBeLeftOut : FaultRule → List BadLine → Type 0
MayBeLeftOut rule.First left_out = Unit {0}
MayBeLeftOut rule.LeaveOut left_out = Unit {0}
MayBeLeftOut rule.TellEach left_out = left_out ≡ []
