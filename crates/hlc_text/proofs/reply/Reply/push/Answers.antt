use Rattle.std.proofs.Common.{rules}
use Rattle.hlc_text.proofs.reply.Reply.push.Goals as goal

pub returns-in-Event : goal.returns-in-Event
returns-in-Event g c = search rules
