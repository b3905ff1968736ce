use Rattle.std.proofs.Common.{arith}
use Rattle.std.proofs.lemmas.Grind.{common_steps}
use Rattle.hlc_text.proofs.reply.push_entry.Goals as goal

pub returns-in-None-written : goal.returns-in-None-written
returns-in-None-written g c = grind (arith, common_steps)
