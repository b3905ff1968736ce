use Rattle.std.proofs.Common.{◌∙◌, ◌++◌, ◌∷◌, [], ℕ, List, ap, length, map, refl, sym}
use Rattle.std.proofs.lemmas.Result.{on_ok_weaker}
use Rattle.hlc_csv.specs.Rows.{Fields}
use Rattle.hlc_ordered_log.specs.InOrder.{LogInOrder}
use Rattle.hlc_ordered_log.specs.Messages.{message_counts}
use Rattle.hlc_ordered_log.specs.declared.messages.MessageCounts.{MessageCounts}
use Rattle.hlc_log_audit.specs.Report.{cause_rows, count_rows, message_row, node_rows, skew_row, unit_rows}
use Rattle.hlc_log_text.proofs.RowsAdded.{adds_joined, adds_one}
use Rattle.hlc_log_audit.proofs.report.push_report.Goals as goal

pub push_nodes-requires-clause-nodes : goal.push_nodes-requires-clause-nodes
push_nodes-requires-clause-nodes g c =
    ap (λ (log : LogInOrder). log.nodes) c.ordered-ordered.ensures.value ∙ c.ordered-ordered.ensures.open.nodes_are
    ∙ sym (ap (λ (names : List (List ℕ)). length names) c.nodes-nodes.ensures.value)

pub returns : goal.returns
returns g c =
    let files = c.files-files.result.now in
    let nodes = c.nodes-nodes.result.now in
    let log = c.ordered-ordered.result.now in
    let counts = c.args.counts in
    let causes = c.in_ok-push_causes.ensures in
    let row = message_row c.args.messages in
    let skews : List Fields = map (skew_row files nodes log) c.args.skews.now.entries in
    rw (sym c.files-files.ensures)
    (rw (sym c.nodes-nodes.ensures.value)
    (rw (sym c.ordered-ordered.ensures.value)
    (rw (sym c.full.ensures)
    (on_ok_weaker c.push_units.result (λ added.
    let units = unit_rows counts log.events in
    let after_causes : List Fields = node_rows files nodes log ++ (row ∷ (skews ++ units)) in
    let after_counts : List Fields = cause_rows files nodes log c.full.result causes.0 ++ after_causes in (
      count_rows counts ++ after_counts,
      record {
        counts = counts;
        counted = rw c.full.ensures (rw c.ordered-ordered.ensures.value c.requires.counts);
        causes = causes.0;
        are_causes = causes.1;
        skews = skews;
        are_skews = (c.args.skews.now.entries, rw c.ordered-ordered.ensures.value c.requires.skews, refl);
        rows_are =
            ap (λ (m : MessageCounts). count_rows counts ++ (cause_rows files nodes log c.full.result causes.0 ++ (node_rows files nodes log ++ (message_row m ∷ (skews ++ units)))))
            (c.requires.messages ∙ ap message_counts (sym c.ordered-ordered.ensures.value));
      },
      adds_joined _ _ _ _ _ _ (count_rows counts) after_counts c.in_ok-push_counts.ensures
          (adds_joined _ _ _ _ _ _ (cause_rows files nodes log c.full.result causes.0) after_causes causes.2
          (adds_joined _ _ _ _ _ _ (node_rows files nodes log) (row ∷ (skews ++ units)) c.in_ok-push_nodes.ensures
          (adds_joined _ _ _ _ _ _ (row ∷ []) (skews ++ units) (adds_one _ _ _ _ row c.in_ok-push_messages.ensures)
          (adds_joined _ _ _ _ _ _ skews units c.in_ok-push_skews.ensures added)))),
    )) c.push_units.ensures))))
