use Rattle.hlc_seeded.proofs.NeverRefused.{seeded_steps_are_never_refused}
use Rattle.hlc_seeded.proofs.laws.seeded_scripts_are_never_refused.Goals as goal

pub returns : goal.returns
returns c = seeded_steps_are_never_refused
