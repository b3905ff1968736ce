use Rattle.std.proofs.Common.{◌∙◌, sym}
use Rattle.hlc_log_audit.proofs.Telling.{asked_in_log}
use Rattle.hlc_log_audit.proofs.audit.is_reported.Goals as goal

pub returns-else-is_empty : goal.returns-else-is_empty
returns-else-is_empty c =
    let none = c.if-is_empty.false in
    none ∙ sym (asked_in_log c.args.rules c.args.questions.now c.args.asked.now c.if-rules.false (sym c.is_empty.ensures ∙ none))
