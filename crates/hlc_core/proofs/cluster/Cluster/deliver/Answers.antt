use Rattle.std.proofs.Common.{◌≡◌, ◌∙◌, true, false, arith, refl}
use Rattle.std.proofs.lemmas.Bool.Decides.{nat_tests}
use Rattle.std.specs.Prelude.{◌==◌}
use Rattle.hlc_core.proofs.Answering.{may_be_delivered, no_message}
use Rattle.hlc_core.proofs.Messages.{addressed_in_state, ended_in_state, live_in_state}
use Rattle.hlc_core.proofs.cluster.Cluster.deliver.Goals as goal

pub returns-in_default : goal.returns-in_default
returns-in_default c =
    let sent = c.args.sent.0 in
    let not_live : false ≡ true → ⊥ = λ bad. cc bad in
    let ended = ended_in_state c.self.invariant c.self.view_is sent (λ live. not_live (c.in_default.ensures.live.1 live)) in
    no_message c.args.self.now c.args.node.0 sent ended

pub returns : goal.returns
returns c =
    let node = c.args.node.0 in
    let sent = c.args.sent.0 in
    let live = live_in_state c.self.invariant c.self.view_is sent (c.in-Some.ensures.live.0 refl) in
    let same : (c.in-Some.to.0 == node) ≡ true = grind (arith, nat_tests, c.ne.ensures, c.if-ne.false) in
    let to = addressed_in_state c.self.invariant c.self.view_is sent c.in-Some.to.0 node c.in-Some.ensures.addressed in
    record { passes = may_be_delivered c.args.self.now node sent live (to ∙ same); kind = refl; live = refl; ends = tt }

pub returns-then-ne : goal.returns-then-ne
returns-then-ne c =
    let node = c.args.node.0 in
    let sent = c.args.sent.0 in
    let live = live_in_state c.self.invariant c.self.view_is sent (c.in-Some.ensures.live.0 refl) in
    let other : (c.in-Some.to.0 == node) ≡ false = grind (arith, nat_tests, c.ne.ensures, c.if-ne.true) in
    let to = addressed_in_state c.self.invariant c.self.view_is sent c.in-Some.to.0 node c.in-Some.ensures.addressed in
    rw (live, to ∙ other) refl
