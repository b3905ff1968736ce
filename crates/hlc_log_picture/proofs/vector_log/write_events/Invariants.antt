use Rattle.std.specs.Io.KnownBytes.{Appends, append_known}
use Rattle.std.specs.Prelude.{flat_map}
use Rattle.hlc_causality.specs.Places.{places_below}
use Rattle.hlc_log_picture.specs.LogVectors.{event_text}
use Rattle.hlc_log_picture.proofs.vector_log.write_events.Given as goal

-- the events before this one have their lines
abbrev pub invariant-loop-position : goal.invariant-loop-position
invariant-loop-position g l =
    Appends (g.W.Write.contents l.fn.writer) (append_known (g.W.Write.contents l.writer) l.text.items)
    (flat_map (event_text l.log) (places_below l.position))
