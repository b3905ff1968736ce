use Rattle.std.proofs.Common.{◌≡◌, ◌∙◌, ◌++◌, List, ℕ, ap, append_assoc, subst, sym}
use Rattle.std.specs.List.{flat_map}
use Rattle.std.specs.Prelude.{OnOk}
use Rattle.std.proofs.lemmas.List.Concat.{flat_map-append}
use Rattle.std.proofs.lemmas.Result.{on_ok_weaker}
use Rattle.hlc_csv.specs.Rows.{AddsRows, Fields}
use Rattle.hlc_watch.specs.Laws.{if_any}
use Rattle.hlc_watch.specs.declared.records.Records.{Records}
use Rattle.hlc_watched_log.specs.CauseRows.{cause_rows, row_if}
use Rattle.hlc_watched_log.specs.Summary.{claimed_ahead}
use Rattle.hlc_watched_log.specs.Taken.{complete_in}
use Rattle.hlc_watched_log.specs.Watched.{event_rows, is_over, over_row}
use Rattle.hlc_log_text.proofs.RowsAdded.{adds_joined}
use Rattle.hlc_watched_log.proofs.event_rows.push_event.Goals as goal

pub returns : goal.returns
returns g c =
    let names = c.args.names.now in
    let complete = c.args.complete.now in
    let event = c.args.event.now in
    let full = c.full-full.result in
    let first = flat_map (cause_rows names full) (if_any complete.event) in
    let later = flat_map (cause_rows names full) c.deref.result.now in
    let over = row_if (is_over c.args.rules.now.limit (claimed_ahead event)) (over_row names c.args.line event) in
    let all : first ++ (later ++ over) ≡ event_rows c.args.rules.now names (complete_in complete) c.args.line event =
    ap (λ (waited : List Records). first ++ (flat_map (cause_rows names full) waited ++ over)) c.deref.ensures.value
    ∙ sym (append_assoc first (flat_map (cause_rows names full) complete.waited.items) over)
    ∙ ap (λ (rows : List Fields). rows ++ over) (sym (flat_map-append (cause_rows names full) (if_any complete.event) complete.waited.items))
    ∙ ap (λ (n : ℕ). flat_map (cause_rows names n) (complete_in complete) ++ over) c.full-full.ensures in
    subst (λ (rows : List Fields).
    OnOk c.push_over.result (AddsRows g.W.Write.contents c.args.writer.now c.push_over.new.writer c.args.rows.now c.push_over.new.rows rows)) all
    (on_ok_weaker c.push_over.result (λ last.
    adds_joined _ _ _ _ _ _ first (later ++ over) c.in_ok-push_first.ensures
    (adds_joined _ _ _ _ _ _ later over c.in_ok-push_each.ensures last))
    c.push_over.ensures)
