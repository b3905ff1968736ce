use Rattle.std.proofs.Common.{rules}
use Rattle.hlc_diagram.proofs.drawing.is_missing.Goals as goal

pub returns-in-Some : goal.returns-in-Some
returns-in-Some c = search rules
