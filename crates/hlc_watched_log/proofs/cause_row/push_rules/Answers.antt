use Rattle.std.proofs.Common.{◌++◌, List, Option, codes, subst}
use Rattle.std.specs.Prelude.{OnOk}
use Rattle.std.proofs.lemmas.Result.{on_ok_weaker}
use Rattle.hlc_csv.specs.Rows.{AddsRows, Fields}
use Rattle.hlc_watch.specs.declared.file_line.FileLine.{FileLine}
use Rattle.hlc_watched_log.specs.CauseRows.{ahead_row, behind_row, line_row, row_if, row_of}
use Rattle.hlc_log_text.proofs.RowsAdded.{adds_joined}
use Rattle.hlc_watched_log.proofs.cause_row.push_rules.Goals as goal

pub returns : goal.returns
returns g c =
    let records = c.args.records.now in
    let names = c.args.names.now in
    let causes = c.args.causes in
    let behind = row_if causes.behind (behind_row names records) in
    let previous = row_of (line_row names records (codes "not-above")) causes.not_above_previous in
    let send = row_of (line_row names records (codes "not-above")) causes.not_above_send in
    let ahead = row_of (ahead_row names records) causes.ahead in
    let carried = row_of (line_row names records (codes "carried")) c.wrong_line-wrong.result in
    subst (λ (wrong : Option FileLine). (let rows : List Fields = behind ++ (previous ++ (send ++ (ahead ++ row_of (line_row names records (codes "carried")) wrong))) in
    OnOk c.push_line-3.result (AddsRows g.W.Write.contents c.args.writer.now c.push_line-3.new.writer c.args.rows.now c.push_line-3.new.rows rows)))
    c.wrong_line-wrong.ensures
    (on_ok_weaker c.push_line-3.result (λ last.
    adds_joined _ _ _ _ _ _ behind (previous ++ (send ++ (ahead ++ carried))) c.in_ok-push_behind.ensures
    (adds_joined _ _ _ _ _ _ previous (send ++ (ahead ++ carried)) c.in_ok-push_line.ensures
    (adds_joined _ _ _ _ _ _ send (ahead ++ carried) c.in_ok-push_line-2.ensures
    (adds_joined _ _ _ _ _ _ ahead carried c.in_ok-push_ahead.ensures last))))
    c.push_line-3.ensures)
