use Rattle.hlc_log_picture.specs.LogVectors.{event_text}
use Rattle.hlc_log_picture.proofs.vector_log.write_events.Goals as goal
use Rattle.hlc_explain.proofs.Batches.{places-more}

pub loop-position-preserved : goal.loop-position-preserved
loop-position-preserved g c =
    places-more (event_text c.args.log.now) c.loop-position.position _ _ _ _ _ _ c.loop-position.invariant c.in_ok-put_event.ensures c.in_ok-spill.ensures
