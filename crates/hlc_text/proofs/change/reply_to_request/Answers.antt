use Rattle.hlc_text.proofs.AnswerFacts.{accepted_tells}
use Rattle.hlc_text.proofs.change.reply_to_request.Goals as goal

pub returns-in-Ok-clause-answer : goal.returns-in-Ok-clause-answer
returns-in-Ok-clause-answer c = rw c.in-Ok.is (accepted_tells c.in-Ok.accepted)
