use Rattle.std.proofs.Common.{◌≡◌, ◌∙◌, ◌<◌, ◌≤◌, inl, inr, arith, length}
use Rattle.std.proofs.lemmas.Bool.{cases_lt}
use Rattle.hlc_stamp.specs.Ids.{places_of}
use Rattle.hlc_causality.proofs.FollowedClockChains.{clock_chain_is_followed}
use Rattle.hlc_causality.proofs.ReceiveEvents.{clock_events_size}
use Rattle.hlc_execution.specs.Execution.{clock_of}
use Rattle.hlc_explain.specs.Answer.{way_answer}
use Rattle.hlc_explain.proofs.answering.explained.Goals as goal

pub returns-clause-answer : goal.returns-clause-answer
returns-clause-answer c =
    let x = c.args.execution.now in
    let event = c.args.event.0 in
    let found = c.in_ok-events.ensures in
    let within : ¬ (length x.events ≤ event) = λ beyond. let both = found.no_event.1 beyond in cc both in
    let exists : event < length x.events = elim (cases_lt event (length x.events)) [ inl lt ↦ lt | inr beyond ↦ absurd (within beyond) ] in
    let followed =
    clock_chain_is_followed (clock_of x) x.stamps event (places_of c.in_ok-events.events.items)
    (omega (arith, exists, clock_events_size x.rules x.events)) found.chain in
    c.in_ok-of_way.ensures ∙ (λ i. way_answer (c.stamp.ensures i) (followed i))
