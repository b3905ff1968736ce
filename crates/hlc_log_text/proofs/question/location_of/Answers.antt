use Rattle.std.proofs.Common.{◌≡◌, ◌∙◌, None, Some, ap, sym}
use Rattle.std.proofs.lemmas.Result.{IfOk-weaker}
use Rattle.memchr.specs.Find.{is_byte, last_of, places}
use Rattle.memchr.proofs.lemmas.ValueLemmas.{IsLastByte-value}
use Rattle.hlc_log_text.specs.Question.{location_by}
use Rattle.hlc_log_text.proofs.question.location_of.Goals as goal

pub returns-in-Some : goal.returns-in-Some
returns-in-Some c =
    let field = c.args.field.now in
    let at : last_of (places (is_byte 58) field) ≡ Some c.in-Some.colon =
    sym (IsLastByte-value (is_byte 58) field c.memrchr.result c.memrchr.ensures) ∙ c.in-Some.is in
    IfOk-weaker c.location_after.result _ _ (λ location is. is ∙ ap (location_by field) (sym at)) c.location_after.ensures

pub returns-in-None : goal.returns-in-None
returns-in-None c =
    let field = c.args.field.now in
    let none : last_of (places (is_byte 58) field) ≡ None =
    sym (IsLastByte-value (is_byte 58) field c.memrchr.result c.memrchr.ensures) ∙ c.in-None.is in
    c.line_alone.ensures ∙ ap (location_by field) (sym none)
