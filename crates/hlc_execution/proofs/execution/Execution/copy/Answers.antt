use Rattle.std.proofs.Common.{ℕ, ◌<◌, subst, sym}
use Rattle.hlc_causality.specs.Causality.{skeleton_at}
use Rattle.hlc_execution.proofs.execution.Execution.copy.Goals as goal

pub copy_with_nodes-requires-clause-named : goal.copy_with_nodes-requires-clause-named
copy_with_nodes-requires-clause-named c k exists =
    subst (λ (n : ℕ). (skeleton_at c.args.self.now.events k).node < n) (sym c.nodes.ensures) (c.len-sound.ensures.execution.each k exists).node
