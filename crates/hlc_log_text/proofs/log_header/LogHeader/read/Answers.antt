use Rattle.std.proofs.Common.{◌≡◌, ◌∙◌, Bool, Err, None, Ok, Result, ap, false, refl, subst, sym, true}
use Rattle.csv.specs.Records.{fields_of}
use Rattle.hlc_csv.specs.Rows.{field_of}
use Rattle.hlc_log_text.specs.Columns.{columns_of}
use Rattle.hlc_log_text.specs.LogHeader.{BeginsFile, IsHeadSaid}
use Rattle.hlc_log_text.specs.LogItem.{Begins, Names, is_header, item_in, other_item}
use Rattle.hlc_log_text.specs.LogWord.{log_word_of}
use Rattle.hlc_log_text.specs.declared.bad_log.BadLog.{BadLog}
use Rattle.hlc_log_text.specs.declared.extras.Extras.{Extras}
use Rattle.hlc_log_text.specs.declared.log_header.RecordItem.TheVariants.{Other}
use Rattle.hlc_log_text.specs.declared.record_head.RecordHead.{RecordHead}
use Rattle.hlc_log_text.proofs.HeaderFacts.{event_next, headed, says_next}
use Rattle.hlc_log_text.proofs.TakenItems.{other_after}
use Rattle.hlc_log_text.proofs.log_header.LogHeader.read.Goals as goal

pub returns-in-None-clause-said : goal.returns-in-None-clause-said
returns-in-None-clause-said c items h =
    let rules = c.args.rules in
    let fields = fields_of c.args.fields.now in
    let begins : is_header rules.syntax items fields ≡ true = sym (c.is_header-is_header.ensures items h) ∙ c.if-is_header.true in
    says_next rules items fields (fields_of c.args.placed.now) c.take.new.self (Ok (Names (columns_of fields))) (Ok Other)
    (headed rules items fields begins ∙ c.in-None.ensures.0) (Names (columns_of fields), refl, refl) (c.in-None.ensures.1 items)

pub returns-in-Ok-true-clause-said : goal.returns-in-Ok-true-clause-said
returns-in-Ok-true-clause-said c items h =
    let rules = c.args.rules in
    let fields = fields_of c.args.fields.now in
    let plain : is_header rules.syntax items fields ≡ false = sym (c.is_header-is_header.ensures items h) ∙ c.if-is_header.false in
    let none : log_word_of (field_of fields 0) ≡ None = ap log_word_of (sym c.field.ensures) ∙ sym c.parse.ensures ∙ c.in_default.is in
    let begun = subst (λ (told : Result Bool BadLog). BeginsFile (other_item fields) told)
    (c.in-Ok-true.is ∙ ap (λ (b : Bool). (let r : Result Bool BadLog = Ok b in r)) c.in-Ok-true.field-0-test) c.in_ok-begins_file.ensures in
    says_next rules items fields (fields_of c.args.placed.now) c.begin_file.new.self (Ok (Begins begun.0)) (Ok Other)
    (other_after rules items fields plain none ∙ begun.1) (Begins begun.0, refl, refl) (c.begin_file.ensures items begun.0)

pub returns-in-Ok-false-clause-said : goal.returns-in-Ok-false-clause-said
returns-in-Ok-false-clause-said c items h =
    let rules = c.args.rules in
    let fields = fields_of c.args.fields.now in
    let plain : is_header rules.syntax items fields ≡ false = sym (c.is_header-is_header.ensures items h) ∙ c.if-is_header.false in
    let none : log_word_of (field_of fields 0) ≡ None = ap log_word_of (sym c.field.ensures) ∙ sym c.parse.ensures ∙ c.in_default.is in
    let aside = subst (λ (told : Result Bool BadLog). BeginsFile (other_item fields) told)
    (c.in-Ok-false.is ∙ ap (λ (b : Bool). (let r : Result Bool BadLog = Ok b in r)) c.in-Ok-false.field-0-test) c.in_ok-begins_file.ensures in
    says_next rules items fields (fields_of c.args.placed.now) c.pass.new.self (Ok aside.0) (Ok Other)
    (other_after rules items fields plain none ∙ aside.1) (aside.0, refl, aside.2.0) (c.pass.ensures items aside.0 aside.2.1 h)

pub returns-in-Ok-clause-said : goal.returns-in-Ok-clause-said
returns-in-Ok-clause-said c items h =
    let rules = c.args.rules in
    let fields = fields_of c.args.fields.now in
    let placed = fields_of c.read_event.new.placed in
    event_next rules items fields placed c.columns.result (Ok (c.in-Ok.head, c.in-Ok.extras)) c.args.self.now c.pass.new.self c.requires
    (sym (c.is_header-is_header.ensures items h) ∙ c.if-is_header.false) (sym c.missing_by.ensures ∙ c.in_default-missing_by.is)
    h c.pass.ensures c.columns.ensures
    (subst (λ (told : Result (RecordHead × Extras) BadLog). IsHeadSaid rules.form placed (item_in rules c.columns.result fields) told) c.in-Ok.is
    c.in_ok-head.ensures.said)

pub returns-in-Err-2-clause-said : goal.returns-in-Err-2-clause-said
returns-in-Err-2-clause-said c items h =
    let rules = c.args.rules in
    let fields = fields_of c.args.fields.now in
    let placed = fields_of c.read_event.new.placed in
    event_next rules items fields placed c.columns.result (Err c.in-Err-2.why) c.args.self.now c.pass.new.self c.requires
    (sym (c.is_header-is_header.ensures items h) ∙ c.if-is_header.false) (sym c.missing_by.ensures ∙ c.in_default-missing_by.is)
    h c.pass.ensures c.columns.ensures
    (subst (λ (told : Result (RecordHead × Extras) BadLog). IsHeadSaid rules.form placed (item_in rules c.columns.result fields) told) c.in-Err-2.is
    c.in_ok-head.ensures.said)
