use Rattle.std.proofs.Common.{rules}
use Rattle.hlc_verdict.proofs.verdicts.verdict.Goals as goal

pub returns-in-Greater : goal.returns-in-Greater
returns-in-Greater g c = search rules
