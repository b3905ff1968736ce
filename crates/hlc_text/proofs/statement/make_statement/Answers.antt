use Rattle.std.proofs.Common.{rules}
use Rattle.hlc_text.proofs.statement.make_statement.Goals as goal

pub returns-in-Pull : goal.returns-in-Pull
returns-in-Pull c = search rules
