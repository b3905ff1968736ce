use Rattle.std.proofs.Common.{◌<◌, length, arith, ap}
use Rattle.hlc_stamp.specs.Order.{Pair}
use Rattle.hlc_explain.proofs.LeastWithout.{c_fits, next_fits}
use Rattle.hlc_explain.proofs.taints.WithoutFloor.raised_over.Goals as goal

pub after-requires : goal.after-requires
after-requires c =
    let x = c.args.execution.now in
    let d = c.in-Some.direct.0 in
    let exists : d < length x.events = rw c.in-Some.is at c.requires.exists in
    let fits = c_fits x c.requires.well_formed c.args.self.now.event.0 c.requires.first d exists in
    let size = ap (λ (p : Pair). p.c) c.stamp.ensures in
    next_fits c.args.rule.ticks c.stamp.result (omega (arith, fits, size, exists, c.requires.well_formed.few))
