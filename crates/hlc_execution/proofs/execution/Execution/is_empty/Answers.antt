use Rattle.std.proofs.Common.{◌≡◌, length, arith, tests, ap, sym, ◌∙◌}
use Rattle.std.proofs.lemmas.List.{nil_from_length}
use Rattle.hlc_execution.specs.Execution.{StoredExecution}
use Rattle.hlc_execution.proofs.SlotEvents.{length-events_of_slots}
use Rattle.hlc_execution.proofs.execution.Execution.is_empty.Goals as goal

pub returns : goal.returns
returns c =
    let slots = c.self.inside.slots.items in
    let seen = ap (λ (x : StoredExecution). length x.events) c.self.view_is in
    let size : length slots ≡ length c.args.self.now.events = sym (length-events_of_slots slots) ∙ seen in
    (λ yes. nil_from_length c.args.self.now.events (grind (arith, tests)), λ none. let zero = ap length none in grind (arith, tests))
