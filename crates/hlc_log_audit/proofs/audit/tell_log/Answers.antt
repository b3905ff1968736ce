use Rattle.std.proofs.Common.{◌++◌, List, ℕ, refl, subst}
use Rattle.std.proofs.lemmas.Result.{on_ok_weaker}
use Rattle.hlc_csv.specs.Rows.{AddsText, text_of}
use Rattle.hlc_log_text.proofs.RowsAdded.{adds_joined, appends-from_none}
use Rattle.hlc_log_audit.proofs.audit.tell_log.Goals as goal

pub returns : goal.returns
returns g c =
    let report = c.in_ok-push_if_told.ensures in
    let answers = c.in_ok-push_all_answers.ensures in
    on_ok_weaker c.finish.result (λ written. (
      report.0 ++ answers.0,
      record { report = report.0; is_report = report.1; answers = answers.0; are_answers = answers.1; rows_are = refl },
      appends-from_none (g.W.Write.contents c.args.writer.now) (g.W.Write.contents c.push_all_answers.new.writer)
          (g.W.Write.contents c.finish.new.writer) c.push_all_answers.new.rows (text_of (report.0 ++ answers.0))
          (subst (λ (old : List ℕ).
          AddsText (g.W.Write.contents c.args.writer.now) (g.W.Write.contents c.push_all_answers.new.writer) old c.push_all_answers.new.rows
          (text_of (report.0 ++ answers.0))) c.new-rows.ensures
          (adds_joined _ _ _ _ _ _ report.0 answers.0 report.2 answers.2)) written,
    )) c.finish.ensures
