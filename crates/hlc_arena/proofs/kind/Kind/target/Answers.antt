use Rattle.std.proofs.Common.{rules}
use Rattle.hlc_arena.proofs.kind.Kind.target.Goals as goal

pub returns-in-Send : goal.returns-in-Send
returns-in-Send c = search rules
