use Rattle.std.proofs.Common.{◌∙◌, ◌++◌, List, ap, length, sym}
use Rattle.std.specs.Prelude.{option_map}
use Rattle.hlc_stamp.specs.Ids.{places_of}
use Rattle.hlc_log.specs.Log.{StoredLog}
use Rattle.hlc_log_text.specs.LogDetails.{ToldDetails}
use Rattle.hlc_open_log.specs.Opened.{labels_kept}
use Rattle.hlc_open_log.proofs.OpenedLogs.{is_open}
use Rattle.hlc_open_log.proofs.opening.open_text.Goals as goal

pub invariant_of-result : goal.invariant_of-result
invariant_of-result c =
    let ordered = c.in_ok-log.ensures.ordered in
    let details = ordered.2 in
    let read = c.into_parts-log.ensures.details in
    let kept = option_map (λ kept. places_of kept.items) c.in_ok-log.field-0.kept in
    is_open c.args.rules c.args.text _ c.into_parts-log.ensures.sound
    (record {
      kept = kept;
      lines = ordered.0;
      ordered = rw c.messages-messages.ensures at (rw (ap (λ (log : StoredLog). log.events) c.into_parts-log.ensures.log) at ordered.1);
      files = ap (λ (d : ToldDetails). d.files) details ∙ ap (λ (d : ToldDetails). d.files) read;
      nodes = ap (λ (d : ToldDetails). d.nodes) details ∙ ap (λ (d : ToldDetails). d.nodes) read;
      labels = ap (λ (d : ToldDetails). labels_kept kept d.labels) details ∙ ap (λ (d : ToldDetails). labels_kept kept d.labels) read;
      questions = ap (λ (d : ToldDetails). d.questions) details ∙ ap (λ (d : ToldDetails). d.questions) read;
      skipped = ap (λ (d : ToldDetails). d.skipped) details ∙ ap (λ (d : ToldDetails). d.skipped) read;
      left_out = ap (λ (d : ToldDetails). d.left_out) details ∙ ap (λ (d : ToldDetails). d.left_out ++ ordered.0) read;
      full = c.full.ensures;
    })
    (c.in_ok-log.ensures.nodes ∙ ap length (sym (ap (λ (d : ToldDetails). d.nodes) details)))
