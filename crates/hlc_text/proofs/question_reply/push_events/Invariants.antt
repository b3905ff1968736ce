use Rattle.std.proofs.Common.{◌≡◌, ◌++◌, take}
use Rattle.hlc_stamp.specs.Ids.{places_of}
use Rattle.hlc_text.proofs.question_reply.push_events.Given as goal

abbrev pub invariant-loop-event : goal.invariant-loop-event
invariant-loop-event l = l.numbers.items ≡ l.initial.numbers.items ++ places_of (take l.event-index l.events)
