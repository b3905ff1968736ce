use Rattle.std.proofs.Common.{◌≡◌, ℕ, ◌+◌, ◌-◌, length, take, arith, subst}
use Rattle.std.proofs.lemmas.List.{length-take-le, take_all}
use Rattle.hlc_explain.specs.Summaries.{AreSummariesFrom}
use Rattle.hlc_explain.proofs.Explaining.{one_more_finished}
use Rattle.hlc_explain.proofs.summaries.explain_range.Goals as goal

pub origin_in_range-origin-requires-clause-finished : goal.origin_in_range-origin-requires-clause-finished
origin_in_range-origin-requires-clause-finished c =
    let x = c.args.execution.now in
    let first = c.args.first in
    let place = c.loop-place.place in
    let range = c.loop-place.range in
    let within = c.loop-place-test.true in
    let kept = c.loop-place.auto.range in
    let len = length-take-le place range (omega arith) in
    let start : first ≡ first + place - length (take place range) = omega arith in
    subst (λ (n : ℕ). AreSummariesFrom x.events x.stamps n (take place range)) start c.loop-place.invariant.finished

pub loop-place-preserved : goal.loop-place-preserved
loop-place-preserved c =
    let h = c.loop-place.invariant in
    let len = c.loop-place.auto.range in
    let within = c.loop-place-test.true in
    let s = c.args.execution.now.events in
    let pairs = c.args.execution.now.stamps in
    let place = c.loop-place.place in
    record {
      finished = one_more_finished s pairs c.args.first place c.loop-place.range c.summary.result (omega arith) h.finished c.summary.ensures;
      known = c.origin_in_range-origin.ensures.known;
    }

pub returns : goal.returns
returns c =
    let h = c.loop-place.invariant in
    let len = c.loop-place.auto.range in
    let end = c.loop-place-test.false in
    let x = c.args.execution.now in
    subst (AreSummariesFrom x.events x.stamps c.args.first) (take_all c.loop-place.place c.loop-place.range (omega arith)) h.finished
