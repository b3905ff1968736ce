use Rattle.std.proofs.Common.{◌∙◌, ap, sym, take}
use Rattle.std.proofs.lemmas.List.{take-map}
use Rattle.hlc_table.specs.Rows.{row_of, rows_of_entries}
use Rattle.hlc_table.proofs.table.Table.truncate.Goals as goal

pub returns : goal.returns
returns c =
    ap rows_of_entries c.truncate.ensures.entries
    ∙ sym (take-map row_of c.args.len c.self.inside.entries.entries)
    ∙ ap (take c.args.len) c.self.view_is
