use Rattle.hlc_arena.proofs.Entries.{entries_are_greatest_lem, greatest_is_entry}
use Rattle.hlc_arena.proofs.laws.entries_are_greatest.Goals as goal

pub returns-clause-greatest : goal.returns-clause-greatest
returns-clause-greatest c = entries_are_greatest_lem

pub returns-clause-exactly : goal.returns-clause-exactly
returns-clause-exactly c = greatest_is_entry
