use Rattle.std.proofs.Common.{◌≡◌, false, true, ap, arith, length, refl}
use Rattle.std.proofs.lemmas.Bool.Decides.{nat_tests}
use Rattle.std.specs.Prelude.{◌==◌, nat_le, nat_lt}
use Rattle.hlc_stamp.specs.declared.limits.TheConstants.{MAX_READING}
use Rattle.hlc_core.specs.State.{State}
use Rattle.hlc_core.proofs.cluster.Cluster.common_refusal.Goals as goal

pub returns-then-len-capacity-clause-value : goal.returns-then-len-capacity-clause-value
returns-then-len-capacity-clause-value c =
    let s = c.args.self.now in
    let nodes = ap (λ (t : State). t.history.nodes) c.self.view_is in
    let capacity = ap (λ (t : State). t.history.capacity) c.self.view_is in
    let events = ap (λ (t : State). length t.history.events) c.self.view_is in
    let exists : nat_le s.history.nodes c.args.node.0 ≡ false = grind (arith, nat_tests, nodes) in
    let positive : (c.args.reading == 0) ≡ false = grind (arith, nat_tests) in
    let in_range : nat_lt MAX_READING c.args.reading ≡ false = grind (arith, nat_tests) in
    let full : nat_le s.history.capacity (length s.history.events) ≡ true = grind (arith, nat_tests, capacity, events) in
    rw (exists, positive, in_range, full) refl
