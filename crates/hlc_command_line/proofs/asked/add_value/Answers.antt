use Rattle.std.proofs.Common.{◌≡◌, false, refl, rules, true}
use Rattle.std.specs.Prelude.{bytes_eq}
use Rattle.hlc_command_line.specs.Asked.{dash}
use Rattle.hlc_command_line.proofs.LineFacts.{if_err}
use Rattle.hlc_command_line.proofs.AskedFacts.{beside_dash, beside_text, on_done, unasked_neither}
use Rattle.hlc_command_line.proofs.asked.add_value.Goals as goal

pub returns-then-eq-clause-added : goal.returns-then-eq-clause-added
returns-then-eq-clause-added c before are =
    let is : bytes_eq c.args.value.now dash ≡ true = search rules in
    beside_dash before c.args.asked.now (record c.args.asked.now { questions_follow = true }) c.args.value.now is refl refl are

pub returns-clause-added : goal.returns-clause-added
returns-clause-added c =
    let is : bytes_eq c.args.value.now dash ≡ false = search rules in
    on_done c.add_question.result
    (λ added before are. beside_text before c.args.asked.now
    (record c.args.asked.now { questions = c.add_question.new.asked }) c.args.value.now is (added _) refl are) c.add_question.ensures.added

pub returns-clause-other : goal.returns-clause-other
returns-clause-other c =
    let is : bytes_eq c.args.value.now dash ≡ false = search rules in
    if_err c.add_question.result c.add_question.ensures.other (λ f unasked. unasked_neither c.args.value.now f is unasked)
