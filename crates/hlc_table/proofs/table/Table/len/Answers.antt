use Rattle.std.proofs.Common.{◌∙◌, ap, length, subst, sym}
use Rattle.std.proofs.lemmas.List.{length-map}
use Rattle.hlc_table.specs.Rows.{EachKeyOnce, row_of}
use Rattle.hlc_table.proofs.Pairs.{each_key_once}
use Rattle.hlc_table.proofs.table.Table.len.Goals as goal

pub returns-clause-len : goal.returns-clause-len
returns-clause-len c = c.len.ensures.len ∙ sym (length-map c.self.inside.entries.entries row_of) ∙ ap length c.self.view_is

pub returns-clause-once : goal.returns-clause-once
returns-clause-once c = subst EachKeyOnce c.self.view_is (each_key_once _ c.len.ensures.unique)
