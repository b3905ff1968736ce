use Rattle.hlc_arena.proofs.KnownOrder.{keys_in_known_order}
use Rattle.hlc_arena.proofs.TableRows.{keys_stand_once, tables_show_entries_lem}
use Rattle.hlc_arena.proofs.laws.tables_show_entries.Goals as goal

pub returns-clause-entries : goal.returns-clause-entries
returns-clause-entries c = tables_show_entries_lem

pub returns-clause-once : goal.returns-clause-once
returns-clause-once c = keys_stand_once

pub returns-clause-order : goal.returns-clause-order
returns-clause-order c = keys_in_known_order
