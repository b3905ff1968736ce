use Rattle.std.proofs.Common.{◌∙◌, ◌+◌, ap, sym}
use Rattle.hlc_watch.specs.Kept.{receive_count}
use Rattle.hlc_watch.specs.Lists.{lists_of}
use Rattle.hlc_watch.proofs.Bounds.{count-with_receive}
use Rattle.hlc_watch.proofs.awaited.Awaited.push.Goals as goal

pub invariant_of-self-2 : goal.invariant_of-self-2
invariant_of-self-2 g c = record {
  count_is =
      ap (λ n. n + 1) c.self.invariant.count_is ∙ sym (count-with_receive (lists_of c.self.inside.receives.entries) c.args.message c.args.records)
      ∙ ap receive_count (sym c.in_ok-add.ensures.waits);
  unbounded = c.add.ensures.cap ∙ c.self.invariant.unbounded;
}
