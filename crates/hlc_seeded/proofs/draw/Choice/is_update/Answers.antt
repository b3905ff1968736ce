use Rattle.std.proofs.Common.{rules}
use Rattle.hlc_seeded.proofs.draw.Choice.is_update.Goals as goal

pub returns-in-Write : goal.returns-in-Write
returns-in-Write c = search rules
