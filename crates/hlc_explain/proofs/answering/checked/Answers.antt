use Rattle.std.proofs.Common.{◌∙◌, Bool, ap}
use Rattle.hlc_stamp.specs.Ids.{places_of}
use Rattle.hlc_causality.proofs.ClockExplanation.{clock_explained_by_test}
use Rattle.hlc_execution.specs.Execution.{clock_of}
use Rattle.hlc_csv.specs.Rows.{yes_or_no}
use Rattle.hlc_explain.specs.Answer.{word_answer}
use Rattle.hlc_explain.proofs.answering.checked.Goals as goal

pub returns : goal.returns
returns c =
    let x = c.args.execution.now in
    let tests = c.check_chain.ensures.chain in
    c.of_word.ensures ∙ ap word_answer c.yes_or_no.ensures
    ∙ ap (λ (holds : Bool). word_answer (yes_or_no holds))
    (clock_explained_by_test (clock_of x) x.stamps c.args.event.0 (places_of c.args.chain.now) c.check_chain.result tests)
