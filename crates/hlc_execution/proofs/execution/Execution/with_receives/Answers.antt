use Rattle.std.proofs.Common.{◌≡◌, None, Some, arith, refl, replicate}
use Rattle.hlc_execution.proofs.NodeEnds.{fits_none}
use Rattle.hlc_execution.proofs.Pushing.{forced_at_first, linked_at_first}
use Rattle.hlc_execution.proofs.execution.Execution.with_receives.Goals as goal

pub invariant_of-result : goal.invariant_of-result
invariant_of-result c =
    let all : c.in_ok-ends.ends.items ≡ replicate c.args.nodes None =
    c.in_ok-ends.ensures.items_if_clones_equal (elim [ None ↦ λ same. refl | Some ends ↦ λ same. absurd same ]) in
    let len = c.in_ok-ends.ensures.len in
    record {
      execution = record {
        few_nodes = omega (arith, c.ranges.nodes, len);
        small_floors = rw c.new-2.ensures (λ e. tt);
        few = rw c.new.ensures.items (omega arith);
        stamped = rw c.new.ensures.items refl;
        each = rw c.new.ensures.items (λ e lt. absurd (omega arith));
      };
      linked = rw (c.new.ensures.items, all) (linked_at_first c.args.nodes);
      forced = rw c.new.ensures.items (forced_at_first c.new-2.result);
      each_node = rw (c.new.ensures.items, all) (fits_none c.args.nodes);
    }
