use Rattle.std.proofs.Common.{◌++◌, codes}
use Rattle.std.proofs.lemmas.Result.{on_ok_weaker}
use Rattle.hlc_log_audit.specs.Report.{count_row}
use Rattle.hlc_log_text.proofs.RowsAdded.{adds_joined}
use Rattle.hlc_log_audit.proofs.counts.push_counts.Goals as goal

pub returns : goal.returns
returns g c =
    let counts = c.args.counts in
    let behind = count_row (codes "behind") counts.behind in
    let not_above = count_row (codes "not-above") counts.not_above in
    let low = count_row (codes "low") counts.low in
    let least = count_row (codes "least") counts.least in
    let ahead = count_row (codes "ahead") counts.ahead in
    let rolled_over = count_row (codes "carried") counts.rolled_over in
    on_ok_weaker c.push_count-6.result (λ last.
    adds_joined _ _ _ _ _ _ behind (not_above ++ (low ++ (least ++ (ahead ++ rolled_over)))) c.in_ok-push_count.ensures
    (adds_joined _ _ _ _ _ _ not_above (low ++ (least ++ (ahead ++ rolled_over))) c.in_ok-push_count-2.ensures
    (adds_joined _ _ _ _ _ _ low (least ++ (ahead ++ rolled_over)) c.in_ok-push_count-3.ensures
    (adds_joined _ _ _ _ _ _ least (ahead ++ rolled_over) c.in_ok-push_count-4.ensures
    (adds_joined _ _ _ _ _ _ ahead rolled_over c.in_ok-push_count-5.ensures last)))))
    c.push_count-6.ensures
