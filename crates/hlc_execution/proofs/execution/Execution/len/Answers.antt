use Rattle.std.proofs.Common.{length, ap, sym, ◌∙◌}
use Rattle.hlc_execution.specs.Execution.{StoredExecution}
use Rattle.hlc_execution.proofs.SlotEvents.{length-events_of_slots}
use Rattle.hlc_execution.proofs.execution.Execution.len.Goals as goal

pub returns-clause-value : goal.returns-clause-value
returns-clause-value c =
    c.len.ensures
    ∙ sym (length-events_of_slots c.self.inside.slots.items)
    ∙ ap (λ (x : StoredExecution). length x.events) c.self.view_is
