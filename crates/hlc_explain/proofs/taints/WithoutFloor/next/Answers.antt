use Rattle.std.proofs.Common.{◌<◌, length, arith}
use Rattle.hlc_explain.proofs.LeastWithout.{next_is}
use Rattle.hlc_explain.proofs.taints.WithoutFloor.next.Goals as goal

pub returns : goal.returns
returns c =
    let x = c.args.execution.now in
    let here : c.args.self.now.event.0 < length x.events = omega (arith, c.requires.next, c.requires.exists) in
    let rule = c.rule-rule in
    next_is x c.requires.well_formed c.args.self.now.event.0 here c.args.next.0 c.previous.result c.send.result rule.result.floor
    c.raised_over-after_previous.result c.raised_over.result rule.result.ticks c.requires.exists c.previous.ensures c.send.ensures
    rule.ensures.floor rule.ensures.ticks c.raised_over-after_previous.ensures c.raised_over.ensures
