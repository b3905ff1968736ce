use Rattle.std.specs.Io.KnownBytes.{Appends, append_known}
use Rattle.std.specs.Prelude.{flat_map}
use Rattle.hlc_causality.specs.Places.{places_below}
use Rattle.hlc_history_log.specs.VectorText.{event_text}
use Rattle.hlc_history_log.proofs.vector_log.write_events.Given as goal

-- the events before this one have their lines
abbrev pub invariant-loop-event : goal.invariant-loop-event
invariant-loop-event g l =
    Appends (g.W.Write.contents l.fn.writer) (append_known (g.W.Write.contents l.writer) l.text.items)
    (flat_map (event_text l.history.nodes l.history.events) (places_below l.event))
