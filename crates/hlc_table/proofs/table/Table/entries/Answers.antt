use Rattle.std.proofs.Common.{◌∙◌, ap, subst}
use Rattle.hlc_table.specs.Rows.{EachKeyOnce, rows_of_entries}
use Rattle.hlc_table.proofs.Pairs.{each_key_once}
use Rattle.hlc_table.proofs.table.Table.entries.Goals as goal

pub returns-clause-all : goal.returns-clause-all
returns-clause-all c = ap rows_of_entries c.iter-rest.ensures.rest ∙ c.self.view_is

pub returns-clause-once : goal.returns-clause-once
returns-clause-once c = subst EachKeyOnce c.self.view_is (each_key_once _ c.iter-rest.ensures.unique)
