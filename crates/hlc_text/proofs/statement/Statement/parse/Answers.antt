use Rattle.std.proofs.Common.{rules}
use Rattle.hlc_text.proofs.statement.Statement.parse.Goals as goal

pub returns-in_default : goal.returns-in_default
returns-in_default c = search rules
