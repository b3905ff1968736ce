use Rattle.std.proofs.Common.{◌≡◌, ◌++◌, ◌∙◌, Bool, true, List, ap, subst, sym}
use Rattle.std.proofs.lemmas.Result.{on_ok_weaker}
use Rattle.hlc_log_text.specs.declared.question.LogQuestion.{LogQuestion}
use Rattle.hlc_log_audit.specs.Audit.{IsReportIf, all_asked, is_reported, missing_rows, taken_rows}
use Rattle.hlc_log_audit.specs.LeftOut.{left_out_rows}
use Rattle.hlc_log_text.proofs.RowsAdded.{adds_joined}
use Rattle.hlc_log_audit.proofs.audit.push_if_told.Goals as goal

pub returns : goal.returns
returns g c =
    let log = c.args.log.now in
    let ordered = c.ordered-ordered.ensures.value in
    let limit = c.args.rules.limit in
    let report = c.in_ok-push_counted_report.ensures in
    let taken = taken_rows c.unsent.result c.resent.result in
    let missing = missing_rows c.files-files.result.now c.ordered-ordered.result.now.events c.skipped.result in
    let before = adds_joined _ _ _ _ _ _ (report.0 ++ taken) missing
    (adds_joined _ _ _ _ _ _ report.0 taken report.2 c.in_ok-push_all_taken.ensures) c.in_ok-push_missing.ensures in
    let left_out = left_out_rows c.files-files.result.now c.left_out.result.now in
    let all = adds_joined _ _ _ _ _ _ ((report.0 ++ taken) ++ missing) left_out before c.in_ok-push_left_out.ensures in
    let told : true ≡ is_reported c.args.rules (all_asked log.questions c.args.asked.now) =
    sym c.if-not-is_reported.false ∙ c.is_reported.ensures
    ∙ ap (λ (questions : List LogQuestion). is_reported c.args.rules (all_asked questions c.args.asked.now)) c.questions.ensures in
    on_ok_weaker c.push_overs.result (λ last.
    let rows = (((report.0 ++ taken) ++ missing) ++ left_out) ++ last.0 in (
      rows,
      subst (λ (told : Bool). IsReportIf log.files told log.nodes log.log log.full log.unsent log.resent log.skipped log.left_out limit rows) told (
        report.0,
        last.0,
        report.1,
        last.1,
        λ i. (((report.0 ++ taken_rows (c.unsent.ensures i) (c.resent.ensures i)) ++ missing_rows (c.files-files.ensures i) (ordered i).events (c.skipped.ensures i))
            ++ left_out_rows (c.files-files.ensures i) (c.left_out.ensures i)) ++ last.0,
      ),
      adds_joined _ _ _ _ _ _ (((report.0 ++ taken) ++ missing) ++ left_out) last.0 all last.2,
    )) c.push_overs.ensures
