use Rattle.std.proofs.Common.{◌≡◌, ◌↔◌, ◌+◌, ℕ, length}
use Rattle.hlc_stamp.specs.Ids.{places_of}
use Rattle.hlc_explain.specs.Marks.{IsMarked}
use Rattle.hlc_explain.proofs.InfluenceSteps.{IsListed, IsReachedOn}
use Rattle.hlc_explain.proofs.influence.influenced.Given as goal

-- the influenced events before the place are listed, and mark what they are direct predecessors of
abbrev pub invariant-loop-place : goal.invariant-loop-place
invariant-loop-place l =
    let s = l.execution.events in
    record {
      len : l.event.0 + length l.reached.items ≡ l.len;
      reached : (e : ℕ) → IsMarked l.event.0 l.reached.items e ↔ IsReachedOn s l.place l.event.0 e;
      listed : IsListed s l.event.0 l.place (places_of l.influenced.items);
    }
