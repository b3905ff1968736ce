use Rattle.std.proofs.Common.{[], ◌∷◌, refl}
use Rattle.std.proofs.lemmas.Result.{on_ok_weaker}
use Rattle.hlc_csv.specs.Rows.{refusal_row}
use Rattle.hlc_text.proofs.AnswerFacts.{gives-same}
use Rattle.hlc_text.proofs.session.Session.refuse.Goals as goal

pub returns-clause-answer : goal.returns-clause-answer
returns-clause-answer g c =
    on_ok_weaker c.push.result
    (λ h. record {
      rows = refusal_row c.word.result.now ∷ [];
      step = rw c.word.ensures (gives-same _ _ _ _ refl (λ stamp. refl));
      text = h;
      counted = c.push.ensures.records;
      refused = c.push.ensures.refused;
    })
    c.push.ensures.rows
