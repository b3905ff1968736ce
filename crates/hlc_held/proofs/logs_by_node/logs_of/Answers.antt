use Rattle.std.proofs.Common.{◌≡◌, ◌∙◌, ◌+◌, [], ◌∷◌, ◌++◌, arith, length-append}
use Rattle.std.specs.Prelude.{sum_by}
use Rattle.std.proofs.lemmas.List.Sums.{sum_by_push}
use Rattle.std.proofs.lemmas.Result.{err_from_is_err_and}
use Rattle.hlc_held.specs.Seats.{NodeLog, act_count, log_at}
use Rattle.hlc_held.proofs.LogFacts.{put_more}
use Rattle.hlc_held.proofs.logs_by_node.logs_of.Goals as goal

pub loop-seat-preserved : goal.loop-seat-preserved
loop-seat-preserved g c =
    let seat = c.in-Some.seat in
    let before = c.loop-seat.yielded in
    let taken = c.take_in.ensures in
    let total : sum_by (λ (s : NodeLog). act_count s.log) (before ++ seat ∷ [])
    ≡ sum_by (λ (s : NodeLog). act_count s.log) before + act_count seat.log =
    sum_by_push (λ (s : NodeLog). act_count s.log) before seat in (
      taken.one_each ∙ c.loop-seat.invariant.0,
      λ n. put_more n before seat (log_at c.loop-seat.logs.items n) (log_at c.take_in.new.logs.items n) (taken.put n) (c.loop-seat.invariant.1 n),
      omega (arith, length-append before (seat ∷ []), c.loop-seat.invariant.2, taken.parts),
      omega (arith, total, c.loop-seat.invariant.3, taken.counted),
    )

pub take_in-requires : goal.take_in-requires
take_in-requires g c = c.loop-seat.invariant.0 ∙ c.requires.nodes

pub returns-in_err-logs : goal.returns-in_err-logs
returns-in_err-logs g c =
    let from = err_from_is_err_and c.from_residual.result c.from_residual.ensures.1 in
    rw from.1 record { one_each = tt; logs = tt; parts = tt; counted = tt }
