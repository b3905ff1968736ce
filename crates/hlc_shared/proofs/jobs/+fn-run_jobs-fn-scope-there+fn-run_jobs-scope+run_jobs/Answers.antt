use Rattle.std.proofs.Common.{◌≡◌, ◌++◌, arith}
use Rattle.std.proofs.lemmas.List.{take-append-drop}
use Rattle.std.proofs.lemmas.Result.{err_from_is_err_and}
use Rattle.hlc_shared.proofs.Halves.{halves}
use Rattle.hlc_shared.proofs.jobs.+fn-run_jobs-fn-scope-there+fn-run_jobs-scope+run_jobs.Goals as goal

pub scope-returns : goal.scope-returns
scope-returns g t c =
    let promised = rw c.in-Ok.ensures.ok at c.join.ensures in
    let there = rw c.requires.3 at promised in
    halves (g.W.Work.done c.captures.work.now) (g.W.Work.shut c.captures.work.now) c.captures.front.items c.captures.back.items
    c.run_jobs-here.result c.join.result c.both.result c.run_jobs-here.ensures there c.both.ensures

pub returns-in_err-back : goal.returns-in_err-back
returns-in_err-back g t c =
    let from = err_from_is_err_and c.from_residual.result c.from_residual.ensures.1 in
    rw (from.1, from.2) tt

pub returns : goal.returns
returns g t c =
    let whole : c.split_off.new.self.items ++ c.in_ok-back.back.items ≡ c.args.jobs.items =
    rw (c.in_ok-back.ensures.items, c.in_ok-back.ensures.tail) (take-append-drop _ _) in
    rw whole at c.scoped.ensures.1

pub scope-there-returns : goal.scope-there-returns
scope-there-returns g t c = c.run_jobs.ensures

pub scope-returns-in_default : goal.scope-returns-in_default
scope-returns-in_default g t c = tt

pub run_last-requires : goal.run_last-requires
run_last-requires g t c = omega (arith, c.len.ensures, c.if-len-lt2.true)

pub returns-then-len-lt2 : goal.returns-then-len-lt2
returns-then-len-lt2 g t c = c.run_last.ensures

pub split_off-requires : goal.split_off-requires
split_off-requires g t c = omega (arith, c.len-half.ensures)
