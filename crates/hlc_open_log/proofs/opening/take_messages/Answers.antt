use Rattle.std.proofs.Common.{List, Option, None, Some, ◌∙◌, ap}
use Rattle.std.specs.Prelude.{ℕ, if◌then◌else◌}
use Rattle.hlc_log.specs.Unsent.{unsent_count, with_unsent}
use Rattle.hlc_log.specs.declared.log_event.LogEvent.{LogEvent}
use Rattle.hlc_open_log.proofs.opening.take_messages.Goals as goal

pub returns-clause-events : goal.returns-clause-events
returns-clause-events c = c.in_ok-unsent.ensures.events ∙ ap (with_unsent c.args.rules.unsent_local) c.in_ok-messages.ensures.events

pub returns-clause-unsent : goal.returns-clause-unsent
returns-clause-unsent c =
    let local = c.args.rules.unsent_local in
    c.in_ok-unsent.ensures.unsent
    ∙ ap (λ (es : List LogEvent). (let o : Option ℕ = if local then Some (unsent_count es) else None in o)) c.in_ok-messages.ensures.events
