use Rattle.std.proofs.Common.{◌≡◌, List, subst, sym}
use Rattle.std.specs.Prelude.{IfOk}
use Rattle.hlc_stamp.specs.Ids.{places_of}
use Rattle.hlc_stamp.specs.Order.{Pair}
use Rattle.hlc_causality.specs.ClockEvents.{ClockEvents}
use Rattle.hlc_causality.specs.Feasible.{IsLeastFeasible}
use Rattle.hlc_execution.specs.Execution.{clock_of}
use Rattle.hlc_figures.specs.Chosen.{chosen}
use Rattle.hlc_figures.specs.Content.{clock_events_of}
use Rattle.hlc_diagram.proofs.marks.marked_chain.Goals as goal

pub chosen_chain-requires : goal.chosen_chain-requires
chosen_chain-requires g c =
    let of = g.S.Subject.content c.args.subject.now in
    let x = c.execution.result.now in
    let same = c.execution.ensures.clocks in
    subst (λ (t : ClockEvents). IsLeastFeasible t x.stamps) (sym same)
    (subst (λ (ps : List Pair). IsLeastFeasible (clock_events_of of) ps) (sym c.execution.ensures.stamps) c.requires)

pub returns-clause-chosen : goal.returns-clause-chosen
returns-clause-chosen g c =
    let of = g.S.Subject.content c.args.subject.now in
    let x = c.execution.result.now in
    let same = c.execution.ensures.clocks in
    subst (λ (t : ClockEvents). IfOk c.chosen_chain.result (λ list. places_of list.items ≡ chosen t of.stamps c.args.explained)) same
    (subst (λ (ps : List Pair). IfOk c.chosen_chain.result (λ list. places_of list.items ≡ chosen (clock_of x) ps c.args.explained))
    c.execution.ensures.stamps c.chosen_chain.ensures.chosen)
