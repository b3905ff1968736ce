use Rattle.std.proofs.Common.{◌∙◌, ℕ, ap, Option}
use Rattle.hlc_stamp.specs.Order.{Pair}
use Rattle.hlc_causes.specs.Seen.{seen}
use Rattle.hlc_ordered_log.specs.InOrder.{claimed_of, clocks_of}
use Rattle.hlc_causality.specs.ClockEvents.{clock_skeleton}
use Rattle.hlc_causality.specs.Predecessors.{send_of}
use Rattle.hlc_ordered_log.proofs.ordered_log.OrderedLog.seen.Goals as goal

pub returns : goal.returns
returns c =
    let claimed = claimed_of c.args.self.now in
    c.new.ensures
    ∙ ap (λ (o : Option ℕ). seen claimed o c.carried.result) c.send.ensures.value
    ∙ ap (λ (carried : Option Pair). seen claimed (send_of (clock_skeleton (clocks_of c.args.self.now)) c.args.position.0) carried) c.carried.ensures
