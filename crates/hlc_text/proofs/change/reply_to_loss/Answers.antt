use Rattle.hlc_text.proofs.AnswerFacts.{loss_tells}
use Rattle.hlc_text.proofs.change.reply_to_loss.Goals as goal

pub returns-in-Ok : goal.returns-in-Ok
returns-in-Ok c = rw c.in-Ok.is (loss_tells c.args.sent.0 _)
