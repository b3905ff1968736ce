use Rattle.hlc_arena.proofs.Entries.{entries_are_known_lem, no_entry_no_write}
use Rattle.hlc_arena.proofs.laws.entries_are_known.Goals as goal

pub returns-clause-known : goal.returns-clause-known
returns-clause-known c = entries_are_known_lem

pub returns-clause-none : goal.returns-clause-none
returns-clause-none c = no_entry_no_write
