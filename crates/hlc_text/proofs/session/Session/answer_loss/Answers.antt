use Rattle.std.proofs.Common.{◌∙◌, ap}
use Rattle.std.proofs.lemmas.Result.{err_from_is_err_and, on_ok_weaker}
use Rattle.hlc_text.specs.Undelivered.{note_more}
use Rattle.hlc_text.proofs.SessionFacts.{message_lost_is}
use Rattle.hlc_text.proofs.session.Session.answer_loss.Goals as goal

pub returns-clause-answer : goal.returns-clause-answer
returns-clause-answer g c =
    on_ok_weaker c.push.result
    (λ h. record {
      rows = _;
      step = c.reply_to_loss-reply.ensures _ _ c.lose-ended.ensures.answer;
      text = h;
      counted = c.push.ensures.records;
      refused = c.push.ensures.refused;
    })
    c.push.ensures.rows

pub returns-clause-notes : goal.returns-clause-notes
returns-clause-notes g c =
    on_ok_weaker c.push.result
    (λ _. c.in_ok-note_loss.ensures ∙ ap (note_more _) (message_lost_is _ _ c.args.sent.0 c.lose-ended.result c.lose-ended.ensures.answer))
    c.push.ensures.rows

pub returns-in_err-note_loss : goal.returns-in_err-note_loss
returns-in_err-note_loss g c = rw (err_from_is_err_and c.from_residual.result c.from_residual.ensures.1).1 record { answer = tt; notes = tt }
