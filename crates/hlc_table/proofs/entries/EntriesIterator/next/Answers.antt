use Rattle.std.proofs.Common.{◌∙◌, ap, sym}
use Rattle.hlc_table.specs.Rows.{rows_of_entries}
use Rattle.hlc_table.proofs.entries.EntriesIterator.next.Goals as goal

pub returns-clause-steps : goal.returns-clause-steps
returns-clause-steps c = rw c.deref.ensures (sym c.self.view_is ∙ ap rows_of_entries c.in_ok-key.ensures.steps)
