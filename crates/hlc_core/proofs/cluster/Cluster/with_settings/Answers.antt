use Rattle.std.proofs.Common.{◌≡◌, None, false, true, arith, inl, inr, refl}
use Rattle.std.proofs.lemmas.Bool.Decides.{nat_tests}
use Rattle.std.proofs.lemmas.Result.{err_from_is_err_and}
use Rattle.std.specs.Prelude.{◌||◌, nat_lt}
use Rattle.hlc_stamp.specs.declared.limits.TheConstants.{MAX_CAPACITY, MAX_NODES, MIN_CAPACITY, MIN_NODES}
use Rattle.hlc_core.specs.State.{new_refusal}
use Rattle.hlc_core.proofs.cluster.Cluster.with_settings.Goals as goal

pub returns-then-capacity-lt-MIN_CAPACITY : goal.returns-then-capacity-lt-MIN_CAPACITY
returns-then-capacity-lt-MIN_CAPACITY c =
    let nodes : (nat_lt c.args.settings.nodes MIN_NODES || nat_lt MAX_NODES c.args.settings.nodes) ≡ false = grind (arith, nat_tests) in
    let capacity : (nat_lt c.args.settings.capacity MIN_CAPACITY || nat_lt MAX_CAPACITY c.args.settings.capacity) ≡ true =
    grind (arith, nat_tests) in
    inl (rw (nodes, capacity) refl)

pub returns-in_err-without_events : goal.returns-in_err-without_events
returns-in_err-without_events c =
    let passes : new_refusal c.args.settings.nodes c.args.settings.capacity ≡ None = grind (arith, nat_tests) in
    let from = err_from_is_err_and c.from_residual.result c.from_residual.ensures.1 in
    rw from.1 (inr (from.2, passes))

pub returns : goal.returns
returns c =
    let passes : new_refusal c.args.settings.nodes c.args.settings.capacity ≡ None = grind (arith, nat_tests) in
    (passes, c.in_ok-without_events.ensures)
