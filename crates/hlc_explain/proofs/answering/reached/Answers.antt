use Rattle.std.proofs.Common.{◌∙◌, ap}
use Rattle.hlc_stamp.specs.Ids.{places_of}
use Rattle.hlc_explain.proofs.Findings.{influenced_is}
use Rattle.hlc_explain.specs.Answer.{set_answer}
use Rattle.hlc_explain.proofs.answering.reached.Goals as goal

pub returns-clause-answer : goal.returns-clause-answer
returns-clause-answer c =
    let found = c.in_ok-events.ensures in
    c.of_set.ensures
    ∙ ap set_answer (influenced_is c.args.execution.now.events c.args.event.0 (places_of c.in_ok-events.events.items) found.all found.rising)
