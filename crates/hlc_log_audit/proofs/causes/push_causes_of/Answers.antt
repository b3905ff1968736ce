use Rattle.std.proofs.Common.{◌≡◌, ◌++◌, List, rules, subst}
use Rattle.std.specs.Prelude.{OnOk, option_map}
use Rattle.std.specs.Bool.{then_some}
use Rattle.std.proofs.lemmas.Result.{on_ok_weaker}
use Rattle.hlc_causes.specs.declared.answers.Cause.TheVariants as cause
use Rattle.hlc_csv.specs.Rows.{AddsRows, Fields}
use Rattle.hlc_log_audit.specs.Report.{cause_row, cause_rows_at, wrong_row}
use Rattle.hlc_causality.specs.Neighbours.{place_of}
use Rattle.hlc_log_text.proofs.RowsAdded.{adds_joined}
use Rattle.hlc_log_audit.proofs.causes.push_causes_of.Goals as goal

pub returns : goal.returns
returns g c =
    let found = c.args.found in
    let row = cause_row c.args.files.now c.args.nodes.now c.args.log.now c.args.full c.args.place.0 in
    let behind = row c.then_some-behind.result in
    let previous = row c.map-previous.result in
    let send = row c.map-send.result in
    let ahead = row c.map-ahead.result in
    let is_behind : c.then_some-behind.result ≡ then_some found.behind cause.Behind = c.then_some-behind.ensures in
    let is_previous : c.map-previous.result ≡ option_map (λ d. cause.NotAbovePrevious d) found.not_above_previous = search rules in
    let is_send : c.map-send.result ≡ option_map (λ d. cause.NotAboveSend d) found.not_above_send = search rules in
    let is_ahead : c.map-ahead.result ≡ option_map (λ p. cause.Ahead p) found.ahead = search rules in
    let wrong = wrong_row c.args.files.now c.args.nodes.now c.args.log.now c.args.place.0 (place_of c.args.wrong) in
    let all : behind ++ (previous ++ (send ++ (ahead ++ wrong))) ≡ cause_rows_at c.args.files.now c.args.nodes.now c.args.log.now c.args.full c.args.place.0 found =
    λ i. row (is_behind i) ++ (row (is_previous i) ++ (row (is_send i) ++ (row (is_ahead i)
    ++ wrong_row c.args.files.now c.args.nodes.now c.args.log.now c.args.place.0 (c.requires.wrong i)))) in
    subst (λ (rows : List Fields).
    OnOk c.push_wrong.result
    (AddsRows g.W.Write.contents c.args.writer.now c.push_wrong.new.writer c.args.rows.now c.push_wrong.new.rows rows)) all
    (on_ok_weaker c.push_wrong.result (λ last.
    adds_joined _ _ _ _ _ _ behind (previous ++ (send ++ (ahead ++ wrong))) c.in_ok-push_if_cause.ensures
    (adds_joined _ _ _ _ _ _ previous (send ++ (ahead ++ wrong)) c.in_ok-push_if_cause-2.ensures
    (adds_joined _ _ _ _ _ _ send (ahead ++ wrong) c.in_ok-push_if_cause-3.ensures
    (adds_joined _ _ _ _ _ _ ahead wrong c.in_ok-push_if_cause-4.ensures last))))
    c.push_wrong.ensures)
