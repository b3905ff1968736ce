use Rattle.std.proofs.Common.{◌≡◌, ◌∙◌, ◌&&◌, Bor, true, false, List, Option, ℕ, Err, ap, inl, inr, refl, sym}
use Rattle.std.specs.Prelude.{option_map}
use Rattle.csv.specs.Records.{fields_of}
use Rattle.hlc_csv.specs.Rows.{field_of}
use Rattle.hlc_log_text.specs.LogItem.{Tells, events_in, unless_sent}
use Rattle.hlc_log_text.specs.NamedEvent.{NamedEvent, sends_again, told_by, whole_head_of, with_extras}
use Rattle.hlc_log_text.proofs.ExtendedItems.{bad_anyway, extended_item, said_by, sent_already, sent_first, told_item}
use Rattle.hlc_log_text.proofs.partial_log.PartialLog.take_event.Goals as goal

module _ (beside : Option (Bor (List ℕ))) where
  abbrev from_of : Option (List ℕ)
  from_of = option_map (λ (l : Bor (List ℕ)). l.now) beside

pub returns-in-Err-clause-taken : goal.returns-in-Err-clause-taken
returns-in-Err-clause-taken c items lines h =
    let fields = fields_of c.args.fields.now in
    let from = from_of c.args.beside.from in
    let is_bad = c.args.self.now.sent.is_kept in
    let said : whole_head_of c.args.rules c.args.word from fields c.args.beside.extras ≡ Err c.in-Err.why = sym c.parse_whole.ensures ∙ c.in-Err.is in
    let is = extended_item c.args.rules c.args.word from fields c.args.beside.extras c.requires.word ∙ ap (said_by c.args.rules.form c.args.word from fields) said in
    (inl (ap (unless_sent is_bad (events_in items)) is ∙ bad_anyway is_bad (events_in items) c.in-Err.why), h)

pub returns-then-sends_again-clause-taken : goal.returns-then-sends_again-clause-taken
returns-then-sends_again-clause-taken c items lines h =
    let fields = fields_of c.args.fields.now in
    let from = from_of c.args.beside.from in
    let head = c.in-Ok.said.0 in
    let extras = c.in-Ok.said.1 in
    let label = option_map (λ (l : Bor (List ℕ)). l.now) c.label.result in
    let event : NamedEvent = with_extras extras (told_by head c.field.result.now c.field-2.result.now from label) in
    let is_bad = c.args.self.now.sent.is_kept in
    let is =
    told_item c.args.rules c.args.word from fields c.args.beside.extras head extras c.field.result.now c.field-2.result.now label c.requires.word
    (sym c.parse_whole.ensures ∙ c.in-Ok.is) (sym c.field.ensures) (ap (field_of fields) (sym c.message_place.ensures) ∙ sym c.field-2.ensures)
    (sym c.label.ensures) in
    let again : (is_bad && sends_again (events_in items) event) ≡ true = sym (c.sends_again.ensures items lines h) ∙ c.if-sends_again.true in
    (inl (ap (unless_sent is_bad (events_in items)) is ∙ sent_already is_bad (events_in items) event again), h)

pub returns-then-branch-clause-taken : goal.returns-then-branch-clause-taken
returns-then-branch-clause-taken c items lines h =
    let fields = fields_of c.args.fields.now in
    let from = from_of c.args.beside.from in
    let head = c.in-Ok.said.0 in
    let extras = c.in-Ok.said.1 in
    let label = option_map (λ (l : Bor (List ℕ)). l.now) c.label.result in
    let event : NamedEvent = with_extras extras (told_by head c.field.result.now c.field-2.result.now from label) in
    let is_bad = c.args.self.now.sent.is_kept in
    let is =
    told_item c.args.rules c.args.word from fields c.args.beside.extras head extras c.field.result.now c.field-2.result.now label c.requires.word
    (sym c.parse_whole.ensures ∙ c.in-Ok.is) (sym c.field.ensures) (ap (field_of fields) (sym c.message_place.ensures) ∙ sym c.field-2.ensures)
    (sym c.label.ensures) in
    let first : (is_bad && sends_again (events_in items) event) ≡ false = sym (c.sends_again.ensures items lines h) ∙ c.if-sends_again.false in
    let added = rw c.if-branch.true at c.in_ok-add.ensures.added in
    (Tells event, ap (unless_sent is_bad (events_in items)) is ∙ sent_first is_bad (events_in items) event first, added items lines h)

pub returns-clause-taken : goal.returns-clause-taken
returns-clause-taken c items lines h =
    let fields = fields_of c.args.fields.now in
    let from = from_of c.args.beside.from in
    let head = c.in-Ok.said.0 in
    let extras = c.in-Ok.said.1 in
    let label = option_map (λ (l : Bor (List ℕ)). l.now) c.label.result in
    let event : NamedEvent = with_extras extras (told_by head c.field.result.now c.field-2.result.now from label) in
    let is_bad = c.args.self.now.sent.is_kept in
    let is =
    told_item c.args.rules c.args.word from fields c.args.beside.extras head extras c.field.result.now c.field-2.result.now label c.requires.word
    (sym c.parse_whole.ensures ∙ c.in-Ok.is) (sym c.field.ensures) (ap (field_of fields) (sym c.message_place.ensures) ∙ sym c.field-2.ensures)
    (sym c.label.ensures) in
    let first : (is_bad && sends_again (events_in items) event) ≡ false = sym (c.sends_again.ensures items lines h) ∙ c.if-sends_again.false in
    let added = rw c.if-branch.false at c.in_ok-add.ensures.added in
    let parts = added items lines h in
    (inr (event, ap (unless_sent is_bad (events_in items)) is ∙ sent_first is_bad (events_in items) event first, parts.0, refl), parts.1)
