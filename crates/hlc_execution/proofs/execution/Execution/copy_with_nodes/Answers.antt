use Rattle.std.proofs.Common.{◌≡◌, ◌≤◌, ◌∙◌, ℕ, ◌<◌, List, Option, length, take, arith, ap, subst, sym}
use Rattle.std.specs.Prelude.{vec_len}
use Rattle.std.proofs.lemmas.List.{length-take-le}
use Rattle.hlc_causality.specs.Causality.{skeleton_at}
use Rattle.hlc_execution.specs.declared.node_ends.NodeEnds.{NodeEnds}
use Rattle.hlc_execution.specs.Execution.{StoredExecution}
use Rattle.hlc_execution.specs.Slots.{execution_in}
use Rattle.hlc_execution.proofs.FewerNodes.{fewer_fit, fewer_linked, fewer_nodes}
use Rattle.hlc_execution.proofs.execution.Execution.copy_with_nodes.Goals as goal

pub invariant_of-result : goal.invariant_of-result
invariant_of-result c =
    let ends = c.self.inside.ends in
    let slots = c.self.inside.slots in
    let nodes = c.args.nodes in
    let same : c.in_ok-from_slice.field-0.items ≡ take nodes ends.items = c.in_ok-from_slice.ensures.items ∙ ap (take nodes) c.deref.ensures.value in
    let all = subst (λ (x : StoredExecution). nodes ≤ x.nodes) (sym c.self.view_is) c.requires.fewer in
    let named = subst (λ (x : StoredExecution). (k : ℕ) → k < length x.events → (skeleton_at x.events k).node < nodes) (sym c.self.view_is) c.requires.named in
    let many : vec_len c.in_ok-from_slice.field-0 ≡ nodes =
    c.in_ok-from_slice.field-0.ok.0 ∙ ap (λ (xs : List (Option NodeEnds)). length xs) same ∙ length-take-le nodes ends.items (omega (arith, all, ends.ok.0)) in
    let fewer = fewer_nodes (execution_in c.self.inside.rules (vec_len ends) slots.items slots.room) nodes all named c.self.invariant.execution in
    record {
      execution = rw (many, c.in_ok-copy.ensures, c.in_ok-copy-2.ensures) (record {
        few_nodes = fewer.few_nodes;
        small_floors = fewer.small_floors;
        few = fewer.few;
        stamped = fewer.stamped;
        each = fewer.each;
      });
      linked = rw (c.in_ok-copy.ensures, same) (fewer_linked ends.items nodes slots.items c.self.invariant.linked);
      forced = rw (c.in_ok-copy.ensures, c.in_ok-copy-2.ensures) c.self.invariant.forced;
      each_node = rw (c.in_ok-copy.ensures, same) (fewer_fit ends.items nodes _ _ c.self.invariant.each_node);
    }
