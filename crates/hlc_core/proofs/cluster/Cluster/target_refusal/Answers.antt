use Rattle.std.proofs.Common.{◌≡◌, ◌∙◌, false, true, ap, arith, refl, sym}
use Rattle.std.proofs.lemmas.Bool.Decides.{nat_tests}
use Rattle.std.specs.Prelude.{◌==◌, nat_le}
use Rattle.hlc_core.specs.State.{State}
use Rattle.hlc_core.proofs.Answering.{target_passes}
use Rattle.hlc_core.proofs.cluster.Cluster.target_refusal.Goals.{After-eq}
use Rattle.hlc_core.proofs.cluster.Cluster.target_refusal.Goals as goal

-- here the target is a node
exists : (c : After-eq) → nat_le c.args.self.now.history.nodes c.args.to.0 ≡ false
exists c = grind (arith, nat_tests, c.if-to-nodes.false, c.nodes.ensures, ap (λ (s : State). s.history.nodes) c.self.view_is)

pub returns-then-eq : goal.returns-then-eq
returns-then-eq c =
    let same : (c.args.to.0 == c.args.node.0) ≡ true = sym c.eq.ensures ∙ c.if-eq.true in
    rw (exists (goal.at.returns-then-eq c).After-eq, same) refl

pub returns-else-eq : goal.returns-else-eq
returns-else-eq c =
    let other = sym c.eq.ensures ∙ c.if-eq.false in
    sym (target_passes c.args.self.now c.args.node.0 c.args.to.0 (exists (goal.at.returns-else-eq c).After-eq) other)
