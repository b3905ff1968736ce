use Rattle.std.proofs.Common.{◌≡◌, [], ℕ, List, refl, subst, sym}
use Rattle.std.proofs.lemmas.Result.{on_ok_weaker}
use Rattle.hlc_csv.specs.Rows.{AddsText, Fields, text_of}
use Rattle.hlc_log_text.proofs.RowsAdded.{appends-from_none}
use Rattle.hlc_open_log.specs.Opened.{OpenedLog}
use Rattle.hlc_log_groups.specs.GroupRows.{AreGroupRows, AreGroupRowsIf}
use Rattle.hlc_log_groups.specs.declared.group_detail.GroupDetail.{GroupDetail}
use Rattle.hlc_log_groups.specs.declared.group_detail.GroupDetail.TheVariants.{Groups, Nothing, Places}
use Rattle.hlc_log_groups.proofs.GroupSteps.{appends_none}
use Rattle.hlc_log_groups.proofs.group_rows.write_groups.Goals as goal

-- rows of groups where something is told of them
if_told : (told : GroupDetail) (opened : OpenedLog) (rows : List Fields) → (told ≡ Nothing → ⊥) → AreGroupRows told opened rows → AreGroupRowsIf told opened rows
if_told Nothing opened rows not are = absurd (not refl)
if_told Groups opened rows not are = are
if_told Places opened rows not are = are

pub returns-in-Nothing : goal.returns-in-Nothing
returns-in-Nothing g c =
    ([], subst (λ (told : GroupDetail). AreGroupRowsIf told c.args.log.now []) (sym c.in-Nothing.is) refl, appends_none (g.W.Write.contents c.args.writer.now))

pub returns-in_ok-push_groups-in_default : goal.returns-in_ok-push_groups-in_default
returns-in_ok-push_groups-in_default g c =
    let groups = c.in_ok-push_groups-in_default.ensures in
    let at = g.W.Write.contents in
    on_ok_weaker c.finish.result (λ written. (
      groups.0,
      if_told c.args.told c.args.log.now groups.0 c.in_default.not-Nothing groups.1,
      appends-from_none (at c.args.writer.now) (at c.push_groups.new.writer) (at c.finish.new.writer) c.push_groups.new.rows (text_of groups.0)
          (subst (λ (old : List ℕ). AddsText (at c.args.writer.now) (at c.push_groups.new.writer) old c.push_groups.new.rows (text_of groups.0))
          c.new-rows.ensures groups.2) written,
    )) c.finish.ensures
