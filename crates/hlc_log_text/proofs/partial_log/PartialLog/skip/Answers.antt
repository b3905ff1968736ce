use Rattle.hlc_log_text.proofs.LogFacts.{is_skipping-more}
use Rattle.hlc_log_text.proofs.partial_log.PartialLog.skip.Goals as goal

pub returns-clause-skipped : goal.returns-clause-skipped
returns-clause-skipped c items lines h =
    rw c.with.ensures (is_skipping-more items lines c.args.self.now c.args.line c.pass.new.self h c.requires.line c.pass.ensures)
