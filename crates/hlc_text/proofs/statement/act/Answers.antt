use Rattle.std.proofs.Common.{rules}
use Rattle.hlc_text.proofs.statement.act.Goals as goal

pub returns : goal.returns
returns c = search rules
