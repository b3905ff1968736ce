use Rattle.hlc_packed.proofs.StepFacts.{merge_of_tick}
use Rattle.hlc_packed.proofs.laws.seen_messages_count_later.Goals as goal

pub returns : goal.returns
returns c = merge_of_tick
