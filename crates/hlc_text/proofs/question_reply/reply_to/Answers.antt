use Rattle.std.proofs.Common.{rules}
use Rattle.hlc_text.proofs.question_reply.reply_to.Goals as goal

pub returns-in-Table : goal.returns-in-Table
returns-in-Table c = search rules
