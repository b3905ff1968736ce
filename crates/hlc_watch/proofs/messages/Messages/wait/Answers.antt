use Rattle.std.proofs.Common.{◌∙◌, List, ℕ, ap, arith}
use Rattle.hlc_watch.specs.Kept.{with_receive}
use Rattle.hlc_watch.proofs.Bounds.{bounded_more, bounded_without}
use Rattle.hlc_watch.proofs.messages.Messages.wait.Goals as goal
use Rattle.hlc_watch.proofs.messages.Messages.wait.Goals.{else-is_full, then-is_full}

pub invariant_of-self-2 : goal.invariant_of-self-2
invariant_of-self-2 g c =
    let keep = c.self.inside.sent.keep in
    let awaited = c.self.inside.awaited in
    let m = c.args.message.now in
    let more = c.in_ok-push.ensures.waits ∙ ap (λ (x : List ℕ). with_receive awaited x c.args.records) c.in_ok-message.ensures.ok in
    elim c.if-is_full.branch [
      | then-is_full w ↦ rw (w.self-inside-is, w.forget-forgotten.ensures.others, more) (bounded_without keep m awaited c.args.records c.self.invariant)
      | else-is_full w ↦
          let less = w.if-is_full.false in
          let size = c.keep.ensures.keep in
          let count = c.count.ensures in
          rw (w.self-inside-is, more) (bounded_more keep m awaited c.args.records c.self.invariant (omega arith))
    ]
