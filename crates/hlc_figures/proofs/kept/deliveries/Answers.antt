use Rattle.std.proofs.Common.{◌∙◌, ap, arith, length}
use Rattle.hlc_causality.specs.Causality.{Skeleton}
use Rattle.hlc_causality.specs.Neighbours.{deliveries_of}
use Rattle.hlc_figures.proofs.kept.deliveries.Goals as goal

pub returns : goal.returns
returns g c = record {
  all = c.deliveries.ensures.all ∙ ap (λ (s : Skeleton). deliveries_of s c.args.event.0) c.execution.ensures.events;
  exist = λ delivery among.
      let exists = ((c.deliveries.ensures.complete delivery).0 among).exists in
      let same = ap (λ (s : Skeleton). length s) c.execution.ensures.events in
      omega arith;
}
