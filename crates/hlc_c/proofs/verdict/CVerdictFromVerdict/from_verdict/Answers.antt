use Rattle.std.proofs.Common.{rules}
use Rattle.hlc_c.proofs.verdict.CVerdictFromVerdict.from_verdict.Goals as goal

pub returns-in-NotAbove : goal.returns-in-NotAbove
returns-in-NotAbove c = search rules
