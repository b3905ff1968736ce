use Rattle.std.proofs.Common.{rules}
use Rattle.hlc_text.proofs.answers.Answers.push.Goals as goal

pub returns-clause-refused : goal.returns-clause-refused
returns-clause-refused g c = search rules
