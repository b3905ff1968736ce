use Rattle.std.proofs.Common.{◌≡◌, map, take}
use Rattle.hlc_log_text.specs.BadRecords.{bad_record_on}
use Rattle.hlc_log_text.proofs.partial_log.PartialLog.located.Given as goal

abbrev pub invariant-loop-line : goal.invariant-loop-line
invariant-loop-line l = l.told.items ≡ map (bad_record_on l.self.files) (take l.line-index l.bad)
