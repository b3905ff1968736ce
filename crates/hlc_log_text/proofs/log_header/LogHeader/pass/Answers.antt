use Rattle.std.proofs.Common.{false, refl}
use Rattle.hlc_log_text.proofs.HeaderFacts.{passes}
use Rattle.hlc_log_text.proofs.log_header.LogHeader.pass.Goals as goal

pub returns : goal.returns
returns c = passes c.args.self.now (record c.args.self.now { at_start = false }) refl refl
