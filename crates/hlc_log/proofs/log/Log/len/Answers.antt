use Rattle.std.proofs.Common.{◌∙◌, length, sym, ap}
use Rattle.hlc_log.specs.Log.{StoredLog}
use Rattle.hlc_log.proofs.StoredEvents.{stored_size}
use Rattle.hlc_log.proofs.log.Log.len.Goals as goal

pub returns-clause-value : goal.returns-clause-value
returns-clause-value c =
    c.len.ensures ∙ sym (stored_size c.self.inside.asides c.self.inside.slots.items) ∙ ap (λ (log : StoredLog). length log.events) c.self.view_is
