use Rattle.std.proofs.Common.{◌↔◌, ◌∙◌, List, ap, subst, sym}
use Rattle.hlc_stamp.specs.Order.{Pair}
use Rattle.hlc_causality.specs.Assignment.{IsLeast}
use Rattle.hlc_causality.specs.Causality.{Skeleton}
use Rattle.hlc_causality.proofs.TickingReceives.{least_by_readings}
use Rattle.hlc_execution.specs.Execution.{HasLeastClockStamps}
use Rattle.hlc_arena.specs.Arena.{StoredHistory}
use Rattle.hlc_arena.specs.History.{causality_of, stamps_of}
use Rattle.hlc_arena.proofs.arena.Arena.execution.Goals as goal

pub returns-clause-least : goal.returns-clause-least
returns-clause-least c =
    let x = c.self.inside.execution in
    let kept = c.self.invariant in
    let events = ap (λ (a : StoredHistory). causality_of a.events) (sym c.self.view_is) ∙ kept.kept.events in
    let stamps = ap (λ (a : StoredHistory). stamps_of a.events) (sym c.self.view_is) ∙ kept.kept.stamps in
    subst (λ (s : Skeleton). IsLeast s (stamps_of c.args.self.now.events) ↔ HasLeastClockStamps x) (sym events)
    (subst (λ (ps : List Pair). IsLeast x.events ps ↔ HasLeastClockStamps x) (sym stamps)
    (least_by_readings x.rules x.events kept.ticking x.stamps))

pub returns-clause-few : goal.returns-clause-few
returns-clause-few c = c.self.invariant.well_formed.few_nodes
