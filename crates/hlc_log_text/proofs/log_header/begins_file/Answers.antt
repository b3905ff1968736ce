use Rattle.std.proofs.Common.{◌∙◌, Option, subst, sym}
use Rattle.csv.specs.Records.{fields_of}
use Rattle.hlc_log_text.specs.LogHeader.{BeginsFile}
use Rattle.hlc_log_text.specs.LogItem.{other_item}
use Rattle.hlc_log_text.specs.Question.{asked_of}
use Rattle.hlc_log_text.specs.declared.bad_log.BadLog.{BadLog}
use Rattle.hlc_log_text.proofs.HeaderFacts.{asked_as, file_begun, question_said, question_told}
use Rattle.hlc_log_text.proofs.log_header.begins_file.Goals as goal

pub returns-then-is_some : goal.returns-then-is_some
returns-then-is_some c =
    file_begun (fields_of c.args.fields.now) c.begun_file.result c.begun_file.ensures (sym c.is_some.ensures ∙ c.if-is_some.true)

pub returns-in-None : goal.returns-in-None
returns-in-None c =
    let fields = fields_of c.args.fields.now in
    let said = question_said fields c.begun_file.result c.begins_as_skip.result c.begun_file.ensures (sym c.is_some.ensures ∙ c.if-is_some.false) c.begins_as_skip.ensures
    c.if-begins_as_skip.false in
    subst (λ (why : Option BadLog). BeginsFile (other_item fields) (asked_as why)) c.in-None.is
    (question_told fields (asked_of fields) c.in_ok-question_fault.field-0 said c.in_ok-question_fault.ensures)

pub returns-in-Some : goal.returns-in-Some
returns-in-Some c =
    let fields = fields_of c.args.fields.now in
    let said = question_said fields c.begun_file.result c.begins_as_skip.result c.begun_file.ensures (sym c.is_some.ensures ∙ c.if-is_some.false) c.begins_as_skip.ensures
    c.if-begins_as_skip.false in
    subst (λ (why : Option BadLog). BeginsFile (other_item fields) (asked_as why)) c.in-Some.is
    (question_told fields (asked_of fields) c.in_ok-question_fault.field-0 said c.in_ok-question_fault.ensures)
