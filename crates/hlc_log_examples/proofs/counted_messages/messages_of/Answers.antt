use Rattle.std.proofs.Common.{◌<◌}
use Rattle.std.proofs.lemmas.List.Elements.{All-weaker}
use Rattle.hlc_log.specs.declared.log_event.TheConstants.{MAX_LOG_NODES}
use Rattle.hlc_log.specs.Events.{IsNumbered}
use Rattle.hlc_log.specs.declared.log_event.LogEvent.{LogEvent}
use Rattle.hlc_log_examples.proofs.counted_messages.messages_of.Goals as goal

pub new-requires-clause-named : goal.new-requires-clause-named
new-requires-clause-named c =
    All-weaker (IsNumbered c.args.messages) (λ (event : LogEvent). event.node.0 < MAX_LOG_NODES) (λ event numbered. numbered.node) c.args.log.events
    c.requires.numbered
