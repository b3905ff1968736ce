-- What a kept event says of itself.
use Rattle.hlc_causality.specs.Causality.{SkeletonEvent}
use Rattle.hlc_causality.specs.Neighbours.{place_of}
use Rattle.hlc_execution.specs.declared.event.Event.{Event}

-- an event as causality sees it
abbrev pub skeleton_event_of : Event → SkeletonEvent
skeleton_event_of e = record { node = e.node.0; reading = e.reading; send = place_of e.send }
