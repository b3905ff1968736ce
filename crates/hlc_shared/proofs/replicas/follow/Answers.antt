use Rattle.std.proofs.Common.{[], ◌∷◌, ◌++◌, ◌∙◌, List, ap, append_assoc, map, refl, sym}
use Rattle.std.proofs.lemmas.Result.{err_from_is_err_and}
use Rattle.hlc_core.specs.declared.step.Step.{Step}
use Rattle.hlc_core.specs.Timed.{timed_request_of}
use Rattle.hlc_shared.proofs.Followed.{followed_then}
use Rattle.hlc_shared.proofs.replicas.follow.Goals as goal

pub loop-step-preserved : goal.loop-step-preserved
loop-step-preserved g c =
    let taken = c.loop-step.invariant.1.0 in
    let one = timed_request_of c.in-Some.step ∷ [] in
    let split = c.loop-step.invariant.1.1 ∙ ap (λ (rest : List Step). taken ++ map timed_request_of rest) c.in-Some.ensures
    ∙ sym (append_assoc taken one (map timed_request_of c.take_first.new.steps.items)) in
    let followed =
    followed_then taken one c.reserve.new.self.log c.loop-step.seat.log c.ask.new.seat.log c.loop-step.invariant.1.2
    c.in_ok-ask.ensures.followed in
    (c.in_ok-ask.ensures.node ∙ c.loop-step.invariant.0, (taken ++ one, split, followed))

pub returns-in_err-reserve : goal.returns-in_err-reserve
returns-in_err-reserve g c =
    let from = err_from_is_err_and c.from_residual.result c.from_residual.ensures.1 in
    rw (from.1, from.2) record { node = tt; followed = tt; not_shut = refl }

pub returns-in_err-ask : goal.returns-in_err-ask
returns-in_err-ask g c =
    let from = err_from_is_err_and c.from_residual-in_err-ask.result c.from_residual-in_err-ask.ensures.1 in
    rw (from.1, from.2) record { node = tt; followed = tt; not_shut = c.in_err-ask.ensures.not_shut }
