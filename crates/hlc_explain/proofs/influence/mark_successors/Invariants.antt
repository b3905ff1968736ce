use Rattle.std.proofs.Common.{◌≡◌, ◌↔◌, ◌⊎◌, ◌++◌, ℕ, length}
use Rattle.hlc_causality.specs.Neighbours.{deliveries_of}
use Rattle.hlc_stamp.specs.Ids.{places_of}
use Rattle.hlc_explain.specs.Marks.{IsMarked}
use Rattle.hlc_explain.proofs.InfluenceSteps.{IsSuccessorSoFar}
use Rattle.hlc_explain.proofs.influence.mark_successors.Given as goal

-- the next event of the node and the deliveries so far are marked
abbrev pub invariant-loop-delivery : goal.invariant-loop-delivery
invariant-loop-delivery l =
    let s = l.execution.events in
    record {
      left : places_of l.yielded ++ l.delivery-iterator ≡ deliveries_of s l.fn.event.0;
      len : length l.marks.items ≡ length l.fn.marks.items;
      marked : (e : ℕ)
          → IsMarked l.first.0 l.marks.items e ↔ (IsMarked l.first.0 l.fn.marks.items e ⊎ IsSuccessorSoFar s l.fn.event.0 l.yielded e);
    }
