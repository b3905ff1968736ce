use Rattle.csv.specs.Records.{fields_of}
use Rattle.hlc_log_text.specs.Columns.{columns_of}
use Rattle.hlc_log_text.specs.LogItem.{Names}
use Rattle.hlc_log_text.proofs.LogFacts.{is_headed}
use Rattle.hlc_log_text.proofs.partial_log.PartialLog.take_header.Goals as goal

pub returns-clause-taken : goal.returns-clause-taken
returns-clause-taken c items lines h =
    let columns = columns_of (fields_of c.args.fields.now) in
    let takes = c.in_default.ensures in (
      Names columns,
      takes.0,
      is_headed items lines c.args.self.now columns c.args.line c.take.new.self h c.requires.line (takes.1 items),
    )
