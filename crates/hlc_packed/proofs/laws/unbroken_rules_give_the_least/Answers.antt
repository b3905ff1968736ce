use Rattle.hlc_packed.proofs.StepFacts.{merge_not_ahead}
use Rattle.hlc_packed.proofs.laws.unbroken_rules_give_the_least.Goals as goal

pub returns : goal.returns
returns c = merge_not_ahead
