use Rattle.std.specs.Iterator.Adapters.{enumerate_count, enumerate_source}
use Rattle.std.proofs.lemmas.Result.{on_ok_weaker}
use Rattle.hlc_trace.proofs.TraceFacts.{has_told-all, has_told-more, has_told-none}
use Rattle.hlc_trace.proofs.trace.tell_verdicts.Goals as goal

pub loop-place-init : goal.loop-place-init
loop-place-init g c =
    let begun = c.enumerate-place-items.ensures in
    rw (c.into_iter-place-iterator.ensures.into_iter_gives, begun.source, begun.count, c.new-rows.ensures)
    (has_told-none c.args.verdicts (g.W.Write.contents c.args.writer.now))

pub loop-place-preserved : goal.loop-place-preserved
loop-place-preserved g c =
    let step = c.in-Some.ensures.steps in
    let told = enumerate_count c.loop-place.place-iterator in
    let more = enumerate_count c.next.new.self in
    has_told-more c.args.verdicts told more c.in-Some.place _ (enumerate_source c.next.new.self) c.in-Some.verdict _ _ _ _ _
    c.loop-place.invariant step.0 step.1 step.2 c.in_ok-push_verdict.ensures

pub returns : goal.returns
returns g c =
    let told = enumerate_count c.loop-place.place-iterator in
    on_ok_weaker c.finish.result (has_told-all c.args.verdicts told _ _ _ _ _ c.loop-place.invariant c.in-None.ensures.steps.0.0) c.finish.ensures
