use Rattle.hlc_diagram.proofs.Drawn.{marked_are_the_chain, none_is_marked}
use Rattle.hlc_diagram.proofs.GoingOn.{steps_go_on}
use Rattle.hlc_diagram.proofs.Steps.{steps_are_thick}
use Rattle.hlc_diagram.proofs.laws.marked_are_the_chain.Goals as goal

pub returns : goal.returns
returns c = record { chain = marked_are_the_chain; steps = steps_are_thick; goes_on = steps_go_on; none = none_is_marked }
