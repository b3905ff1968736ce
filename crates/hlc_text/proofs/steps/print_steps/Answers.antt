use Rattle.std.proofs.Common.{◌≡◌, ◌∙◌, ℕ, ◌<◌, arith, subst}
use Rattle.std.proofs.lemmas.Result.{err_from_is_err_and, on_ok_weaker}
use Rattle.hlc_core.specs.Timed.{requests_in}
use Rattle.hlc_text.specs.Steps.{rounds_in}
use Rattle.hlc_text.proofs.StepFacts.{has_printed-all, has_printed-more, has_printed-none, round_within}
use Rattle.hlc_text.proofs.steps.print_steps.Goals as goal

pub loop-round-init : goal.loop-round-init
loop-round-init g c = rw c.new-rows.ensures (has_printed-none c.args.lists.now (g.W.Write.contents c.args.writer.now))

pub push_round-requires : goal.push_round-requires
push_round-requires g c =
    let lists = c.args.lists.now in
    let lt : c.loop-round.round < rounds_in (requests_in lists) =
    subst (λ (n : ℕ). c.loop-round.round < n) c.rounds-round-end.ensures c.loop-round-test.true in
    record { within = round_within lists c.requires.one_length.0 c.loop-round.round c.requires.one_length.1 lt }

pub loop-round-preserved : goal.loop-round-preserved
loop-round-preserved g c = has_printed-more c.args.lists.now c.loop-round.round _ _ _ _ _ c.loop-round.invariant c.in_ok-push_round.ensures

pub returns : goal.returns
returns g c =
    let last : c.loop-round.round ≡ c.rounds-round-end.result = omega arith in
    on_ok_weaker c.finish.result
    (has_printed-all c.args.lists.now c.loop-round.round _ _ _ _ (last ∙ c.rounds-round-end.ensures) c.loop-round.invariant)
    c.finish.ensures

pub returns-in_err-push_round : goal.returns-in_err-push_round
returns-in_err-push_round g c = rw (err_from_is_err_and c.from_residual.result c.from_residual.ensures.1).1 tt
