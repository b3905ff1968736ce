use Rattle.hlc_history_log.specs.VectorText.{event_text}
use Rattle.hlc_explain.proofs.Batches.{places-more}
use Rattle.hlc_history_log.proofs.vector_log.write_events.Goals as goal

pub loop-event-preserved : goal.loop-event-preserved
loop-event-preserved g c =
    places-more (event_text c.args.history.now.nodes c.args.history.now.events) c.loop-event.event _ _ _ _ _ _ c.loop-event.invariant
    c.in_ok-put_event.ensures c.in_ok-spill.ensures
