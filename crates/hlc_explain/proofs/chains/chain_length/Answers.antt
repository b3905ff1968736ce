use Rattle.std.proofs.Common.{ap, arith}
use Rattle.hlc_explain.proofs.ForcingSteps.{chain_counted_by_stamp}
use Rattle.hlc_explain.proofs.chains.chain_length.Goals as goal

pub returns-then-all_tick : goal.returns-then-all_tick
returns-then-all_tick c = λ chain is.
    let ticks = c.all_tick.ensures.0 c.if-all_tick.true in
    let bears = ap (λ p. p.c) c.requires.stamp in
    let counted = chain_counted_by_stamp c.args.execution.now ticks c.requires.least c.args.event.0 chain is in
    omega (arith, bears, counted)
