use Rattle.std.proofs.Common.{List, arith, subst, sym}
use Rattle.std.proofs.lemmas.Result.{on_ok_weaker}
use Rattle.std.specs.Io.KnownBytes.{Appends}
use Rattle.hlc_csv.specs.Rows.{Fields, text_of}
use Rattle.hlc_watched_log.specs.Taken.{complete_in}
use Rattle.hlc_log_text.proofs.RowsAdded.{appends-from_none}
use Rattle.hlc_watched_log.proofs.RowsAdded.{appends_none}
use Rattle.hlc_watched_log.proofs.Told.{no_event_rows}
use Rattle.hlc_watched_log.proofs.event_rows.write_event.Goals as goal

pub returns-then-not-told : goal.returns-then-not-told
returns-then-not-told g c =
    let before = g.W.Write.contents c.args.writer.now in
    let none =
    no_event_rows c.args.rules.now c.args.names.now (complete_in c.args.complete.now) c.args.line c.args.event.now (grind (arith, c.requires.told, c.if-not-told.true)) in
    subst (λ (rows : List Fields). Appends before before (text_of rows)) (sym none) (appends_none before)

pub returns : goal.returns
returns g c =
    on_ok_weaker c.finish.result (λ sent. appends-from_none _ _ _ _ _ (rw c.new-rows.ensures at c.in_ok-push_event.ensures) sent) c.finish.ensures
