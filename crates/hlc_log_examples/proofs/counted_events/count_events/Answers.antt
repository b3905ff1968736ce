use Rattle.std.proofs.Common.{◌∙◌, Some, ap, length, subst}
use Rattle.std.specs.Prelude.{IfOk}
use Rattle.hlc_stamp.specs.declared.limits.TheConstants.{MAX_CAPACITY}
use Rattle.hlc_log.specs.Log.{StoredLog}
use Rattle.hlc_log_text.specs.declared.log_rules.LogRules.{LogRules}
use Rattle.hlc_log_text.specs.declared.stamp_form.StampForm.TheVariants.{Pair}
use Rattle.hlc_log_text.specs.LogRules.{exact_rules}
use Rattle.hlc_log_text.specs.ReadLog.{IsReadWhole}
use Rattle.hlc_log_examples.proofs.EventCount.{holds_of_read, one_event_each}
use Rattle.hlc_log_examples.proofs.counted_events.count_events.Goals as goal

pub returns : goal.returns
returns c =
    let read = c.in_ok-read.read in
    let log : IfOk c.read_log.result (IsReadWhole (exact_rules Pair) MAX_CAPACITY (Some c.args.text.now)) =
    subst (λ (rules : LogRules). IfOk c.read_log.result (IsReadWhole rules MAX_CAPACITY (Some c.args.text.now))) c.exact.ensures c.read_log.ensures.log in
    let whole = holds_of_read (IsReadWhole (exact_rules Pair) MAX_CAPACITY (Some c.args.text.now)) c.read_log.result read c.in_ok-read.ensures.value log in
    let each = one_event_each (exact_rules Pair) MAX_CAPACITY (Some c.args.text.now) read whole in
    (each.0, each.1, each.2, each.3, c.len.ensures.value ∙ ap (λ (log : StoredLog). length log.events) c.log.ensures.value ∙ each.4)
