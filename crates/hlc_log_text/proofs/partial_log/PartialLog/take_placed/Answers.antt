use Rattle.std.proofs.Common.{◌≡◌, ◌∙◌, None, Option, Result, ap, subst, sym}
use Rattle.std.proofs.lemmas.Result.{IfOk-weaker}
use Rattle.csv.specs.Records.{fields_of}
use Rattle.hlc_log_text.specs.LogItem.{LogItem, columns_after, events_in, item_in, item_of, unless_sent}
use Rattle.hlc_log_text.specs.PartialLog.{TakesOr}
use Rattle.hlc_log_text.specs.declared.bad_log.BadLog.{BadLog}
use Rattle.hlc_log_text.specs.declared.columns.Columns.{Columns}
use Rattle.hlc_log_text.proofs.ExtendedItems.{plain_extended}
use Rattle.hlc_log_text.proofs.partial_log.PartialLog.take_placed.Goals as goal

pub returns-in_default-clause-taken : goal.returns-in_default-clause-taken
returns-in_default-clause-taken c =
    let rules = c.args.rules in
    let fields = fields_of c.args.fields.now in
    let is_bad = c.args.self.now.sent.is_kept in
    IfOk-weaker c.take_event.result _ _ (λ found takes items lines h.
    let none : columns_after rules items ≡ None = sym (c.columns.ensures items h.header) ∙ c.in_default.is in
    let plain : item_in rules (columns_after rules items) fields ≡ item_of rules fields = ap (λ (columns : Option Columns). item_in rules columns fields) none in
    subst (λ (said : Result LogItem BadLog). TakesOr items lines (unless_sent is_bad (events_in items) said) c.args.line c.take_event.new.self found)
    (plain_extended rules None fields ∙ sym plain) (takes items lines h)) c.take_event.ensures.taken
