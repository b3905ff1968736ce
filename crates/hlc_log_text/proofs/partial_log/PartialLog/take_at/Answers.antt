use Rattle.std.proofs.Common.{◌≡◌, ◌∙◌, None, Result, ap, subst, sym}
use Rattle.std.proofs.lemmas.Result.{IfOk-weaker}
use Rattle.csv.specs.Records.{fields_of}
use Rattle.hlc_csv.specs.Rows.{field_of}
use Rattle.hlc_log_text.specs.LogItem.{LogItem}
use Rattle.hlc_log_text.specs.LogWord.{log_word_of}
use Rattle.hlc_log_text.specs.PartialLog.{TakesOr}
use Rattle.hlc_log_text.specs.declared.bad_log.BadLog.{BadLog}
use Rattle.hlc_log_text.proofs.TakenItems.{other_after}
use Rattle.hlc_log_text.proofs.partial_log.PartialLog.take_at.Goals as goal

pub returns-in_default-clause-taken : goal.returns-in_default-clause-taken
returns-in_default-clause-taken c =
    let fields = fields_of c.args.fields.now in
    let none : log_word_of (field_of fields 0) ≡ None = ap log_word_of (sym c.field.ensures) ∙ sym c.parse.ensures ∙ c.in_default.is in
    IfOk-weaker c.take_other.result _ _ (λ found takes items lines h.
    subst (λ (said : Result LogItem BadLog). TakesOr items lines said c.args.line c.take_other.new.self found)
    (sym (other_after c.args.rules items fields (sym (c.is_header.ensures items h.header) ∙ c.if-is_header.false) none)) (takes items lines h))
    c.take_other.ensures.taken
