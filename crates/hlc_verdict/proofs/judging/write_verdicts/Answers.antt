use Rattle.std.proofs.Common.{ℕ, ◌+◌, set, subst, sym}
use Rattle.std.specs.Iterator.Adapters.{enumerate_count, enumerate_source}
use Rattle.hlc_verdict.proofs.OneMoreVerdict.{IsWritten, written-next, written-start, written-whole}
use Rattle.hlc_verdict.proofs.judging.write_verdicts.Goals as goal

pub loop-place-init : goal.loop-place-init
loop-place-init g c =
    rw (c.into_iter-place-iterator.ensures.into_iter_gives, c.enumerate-place-items.ensures.source, c.enumerate-place-items.ensures.count)
    (written-start g.V.FromVerdict.told c.args.left c.args.verdicts.now c.requires.one_each)

pub loop-place-preserved : goal.loop-place-preserved
loop-place-preserved g c =
    let told = g.V.FromVerdict.told in
    let rest = enumerate_source c.next.new.self in
    let n = enumerate_count c.loop-place.place-iterator in
    let answer = c.from_verdict.result in
    let step = c.in-Some.ensures.steps in
    let so_far = c.loop-place.invariant in
    let written : IsWritten told c.args.left rest (n + 1) (set c.loop-place.verdicts n answer) =
    written-next told c.args.left _ rest n c.loop-place.verdicts c.in-Some.verdict answer so_far step.0 c.from_verdict.ensures in
    subst (λ (k : ℕ). IsWritten told c.args.left rest k (set c.loop-place.verdicts c.in-Some.place answer)) (sym step.2)
    (subst (λ (k : ℕ). IsWritten told c.args.left rest (n + 1) (set c.loop-place.verdicts k answer)) (sym step.1) written)

pub returns : goal.returns
returns g c =
    let made = c.loop-place in
    written-whole g.V.FromVerdict.told c.args.left _ (enumerate_count made.place-iterator) made.verdicts made.invariant
    c.in-None.ensures.steps.0.0
