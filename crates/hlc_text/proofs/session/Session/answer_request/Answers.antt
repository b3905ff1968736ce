use Rattle.std.proofs.Common.{◌∙◌, ap}
use Rattle.std.proofs.lemmas.Result.{err_from_is_err_and, on_ok_weaker}
use Rattle.hlc_core.specs.Request.{request_of_ref}
use Rattle.hlc_text.specs.Undelivered.{note_more}
use Rattle.hlc_text.proofs.SessionFacts.{held_back_is}
use Rattle.hlc_text.proofs.session.Session.answer_request.Goals as goal

pub returns-clause-answer : goal.returns-clause-answer
returns-clause-answer g c =
    on_ok_weaker c.push.result
    (λ h. record {
      rows = _;
      step = c.in_ok-reply.ensures.answer _ _ c.args.node.0 c.args.reading (request_of_ref c.args.action) c.ask-asked.ensures.answer c.ask-asked.ensures.sound.least;
      text = h;
      counted = c.push.ensures.records;
      refused = c.push.ensures.refused;
    })
    c.push.ensures.rows

pub returns-clause-notes : goal.returns-clause-notes
returns-clause-notes g c =
    on_ok_weaker c.push.result
    (λ _. c.in_ok-note.ensures
    ∙ ap (note_more _) (c.held_back-message.ensures ∙ held_back_is _ _ c.args.node.0 c.args.reading (request_of_ref c.args.action) c.ask-asked.result c.ask-asked.ensures.answer))
    c.push.ensures.rows

pub returns-in_err-note : goal.returns-in_err-note
returns-in_err-note g c = rw (err_from_is_err_and c.from_residual.result c.from_residual.ensures.1).1 record { answer = tt; notes = tt }

pub returns-in_err-reply : goal.returns-in_err-reply
returns-in_err-reply g c = rw (err_from_is_err_and c.from_residual-in_err-reply.result c.from_residual-in_err-reply.ensures.1).1 record { answer = tt; notes = tt }
