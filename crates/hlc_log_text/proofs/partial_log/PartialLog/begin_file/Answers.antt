use Rattle.hlc_log_text.proofs.LogFacts.{is_begun}
use Rattle.hlc_log_text.proofs.partial_log.PartialLog.begin_file.Goals as goal

pub returns-clause-begun : goal.returns-clause-begun
returns-clause-begun c items lines h =
    is_begun items lines c.args.self.now c.args.name.now c.args.line c.begin_file.new.self h c.requires.line c.begin.new.self c.in_ok-begin.ensures.begun
    (c.begin_file.ensures items c.args.name.now)
