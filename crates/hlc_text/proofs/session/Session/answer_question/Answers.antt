use Rattle.std.proofs.Common.{ap, refl, sym}
use Rattle.std.proofs.lemmas.Result.{err_from_is_err_and, on_ok_weaker}
use Rattle.hlc_text.specs.Answer.{Answer}
use Rattle.hlc_text.specs.Reply.{rows_of_reply}
use Rattle.hlc_text.proofs.AnswerFacts.{gives-same}
use Rattle.hlc_text.proofs.session.Session.answer_question.Goals as goal

pub returns-clause-answer : goal.returns-clause-answer
returns-clause-answer g c =
    on_ok_weaker c.push.result
    (λ h. record {
      rows = rows_of_reply c.in_ok-reply.reply;
      step = gives-same _ _ _ _ refl
          (λ stamp. ap (λ rows. let a : Answer = record { rows = rows; state = c.args.self.now.cluster } in a) (sym c.in_ok-reply.ensures));
      text = h;
      counted = c.push.ensures.records;
      refused = c.push.ensures.refused;
    })
    c.push.ensures.rows

pub returns-in_err-reply : goal.returns-in_err-reply
returns-in_err-reply g c = rw (err_from_is_err_and c.from_residual.result c.from_residual.ensures.1).1 record { answer = tt; notes = tt }
