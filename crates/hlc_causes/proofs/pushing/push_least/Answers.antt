use Rattle.std.proofs.Common.{[], ◌∷◌, ◌++◌, List, subst, sym}
use Rattle.hlc_stamp.specs.Order.{Pair}
use Rattle.hlc_causality.specs.Causality.{Skeleton, SkeletonEvent}
use Rattle.hlc_causality.specs.Feasible.{IsLeastFeasible}
use Rattle.hlc_causality.specs.Neighbours.{place_of}
use Rattle.hlc_causality.specs.ReceiveEvents.{ClockRules, clock_events}
use Rattle.hlc_causes.proofs.NextEvents.{one_more_stays_least}
use Rattle.hlc_causes.proofs.pushing.push_least.Goals as goal

pub returns-clause-least : goal.returns-clause-least
returns-clause-least c =
    let rules = c.args.execution.now.rules in
    let s = c.args.execution.now.events in
    let pairs = c.args.execution.now.stamps in
    let x : SkeletonEvent = record { node = c.args.node.0; reading = c.args.reading; send = place_of c.args.send } in
    let stamp = c.next_stamp-stamp in
    let longer = s ++ x ∷ [] in
    let least : IsLeastFeasible (clock_events rules longer) (pairs ++ stamp.result ∷ []) =
    one_more_stays_least rules s pairs c.requires.least x stamp.result stamp.ensures in
    let pushed = c.push.ensures in
    subst (λ (r : ClockRules). IsLeastFeasible (clock_events r c.push.new.self.events) c.push.new.self.stamps) (sym pushed.rules)
    (subst (λ (events : Skeleton). IsLeastFeasible (clock_events rules events) c.push.new.self.stamps) (sym pushed.events)
    (subst (λ (stamps : List Pair). IsLeastFeasible (clock_events rules longer) stamps) (sym pushed.stamps) least))
