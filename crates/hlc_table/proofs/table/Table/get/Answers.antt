use Rattle.std.proofs.Common.{◌≡◌, ◌∙◌}
use Rattle.hlc_table.specs.Rows.{entry_at}
use Rattle.hlc_table.proofs.KeyOrder.{known_from_entry_at}
use Rattle.hlc_table.proofs.table.Table.get.Goals as goal

pub returns-in_err-entry : goal.returns-in_err-entry
returns-in_err-entry c =
    let entry : c.from_residual.result ≡ entry_at c.args.self.now c.args.key.now = c.from_residual.ensures ∙ c.in_err-entry.ensures.entry in
    record { entry = entry; known = known_from_entry_at c.args.self.now c.args.key.now c.from_residual.result entry }

pub returns : goal.returns
returns c =
    let entry = c.in_ok-entry.ensures.entry in
    record { entry = entry; known = known_from_entry_at c.args.self.now c.args.key.now _ entry }
