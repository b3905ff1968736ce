use Rattle.std.proofs.Common.{rules}
use Rattle.hlc_c.proofs.clock.hlc_merge_within.Goals as goal

pub returns-clause-ok : goal.returns-clause-ok
returns-clause-ok c = search rules

pub returns-clause-too_far : goal.returns-clause-too_far
returns-clause-too_far c = search rules

pub returns-clause-no_room : goal.returns-clause-no_room
returns-clause-no_room c = search rules
