use Rattle.std.proofs.Common.{◌<◌, ◌≤◌, arith, length}
use Rattle.std.proofs.lemmas.Result.{err_from_is_err_and}
use Rattle.hlc_text.proofs.StepFacts.{has_round-all, has_round-more, has_round-none}
use Rattle.hlc_text.proofs.steps.push_round.Goals as goal

pub loop-node-init : goal.loop-node-init
loop-node-init g c = has_round-none c.args.lists.now c.args.round (g.W.Write.contents c.args.writer.now) c.args.rows.now

pub loop-node-preserved : goal.loop-node-preserved
loop-node-preserved g c =
    let within : c.loop-node.node < length c.args.lists.now = omega arith in
    let list = c.index-lists-node.result in
    has_round-more c.args.lists.now c.args.round c.loop-node.node list c.index.result.now _ _ _ _ _ _ within
    (c.requires.within c.loop-node.node list within)
    c.index-lists-node.is c.index.ensures c.loop-node.invariant c.in_ok-push_step.ensures

pub returns : goal.returns
returns g c =
    let all : length c.args.lists.now ≤ c.loop-node.node = omega arith in
    has_round-all c.args.lists.now c.args.round c.loop-node.node _ _ _ _ all c.loop-node.invariant

pub returns-in_err-push_step : goal.returns-in_err-push_step
returns-in_err-push_step g c = rw (err_from_is_err_and c.from_residual.result c.from_residual.ensures.1).1 tt
