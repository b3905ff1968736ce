use Rattle.std.proofs.Common.{◌≡◌, ◌∙◌, Bor, List, None, Ok, Option, Result, Some, ℕ, ap, subst, sym}
use Rattle.std.specs.Prelude.{option_map}
use Rattle.csv.specs.Records.{fields_of}
use Rattle.hlc_csv.specs.Rows.{Fields, field_of}
use Rattle.hlc_log_text.specs.Columns.{no_extras}
use Rattle.hlc_log_text.specs.LogHeader.{HasSmallHead, IsHeadSaid}
use Rattle.hlc_log_text.specs.LogItem.{LogItem, extend, item_from, item_in, item_of}
use Rattle.hlc_log_text.specs.LogWord.{log_word_of}
use Rattle.hlc_log_text.specs.NamedEvent.{head_of}
use Rattle.hlc_log_text.specs.declared.bad_log.BadLog.{BadLog}
use Rattle.hlc_log_text.specs.declared.columns.Columns.{Columns}
use Rattle.hlc_log_text.specs.declared.extras.Extras.{Extras}
use Rattle.hlc_log_text.specs.declared.log_column.LogColumn.{LogColumn}
use Rattle.hlc_log_text.proofs.ExtendedItems.{plain_extended}
use Rattle.hlc_log_text.proofs.HeaderFacts.{head_said, in_columns, small_extras, small_head}
use Rattle.hlc_log_text.proofs.ReadingFacts.{AreSmallExtras}
use Rattle.hlc_log_text.proofs.log_header.read_event.Goals as goal

pub returns-in_default-clause-said : goal.returns-in_default-clause-said
returns-in_default-clause-said c =
    let rules = c.args.rules in
    let fields = fields_of c.args.fields.now in
    let placed = fields_of c.swap.new.y in
    let same : placed ≡ fields = ap fields_of c.swap.ensures.y_after in
    let none : item_in rules c.args.columns fields ≡ item_of rules fields = ap (λ (columns : Option Columns). item_in rules columns fields) c.in_default.is in
    let word = subst (λ (fields : Fields). log_word_of (field_of fields 0) ≡ Some c.args.word) (sym same) c.requires in
    subst (λ (said : Result LogItem BadLog). IsHeadSaid rules.form placed said c.parse_whole.result)
    (plain_extended rules None placed ∙ ap (λ (fields : Fields). item_of rules fields) same ∙ sym none)
    (head_said rules c.args.word None placed (Ok no_extras) c.parse_whole.result word c.parse_whole.ensures)

pub returns-in_default-clause-small : goal.returns-in_default-clause-small
returns-in_default-clause-small c =
    subst HasSmallHead (sym c.parse_whole.ensures) (small_head (head_of c.args.rules c.args.word None (fields_of c.swap.new.y)) (Ok no_extras) tt)

pub returns-clause-said : goal.returns-clause-said
returns-clause-said c =
    let rules = c.args.rules in
    let columns = c.in-Some.columns in
    let fields = fields_of c.args.fields.now in
    let placed = fields_of c.arrange.new.placed in
    let from = option_map (λ (from : Bor (List ℕ)). from.now) c.beside-beside.result.from in
    let extras = c.beside-beside.result.extras in
    let at = c.in_ok-arrange.ensures in
    let word = subst (λ (fields : Fields). log_word_of (field_of fields 0) ≡ Some c.args.word) (sym at) c.requires in
    let some : item_in rules c.args.columns fields ≡ item_in rules (Some columns) fields =
    ap (λ (columns : Option Columns). item_in rules columns fields) c.in-Some.is in
    let all : extend extras (item_from rules from placed) ≡ _ =
    λ i. extend (c.beside-beside.ensures.extras i) (item_from rules (c.beside-beside.ensures.from i) (at i)) in
    subst (λ (said : Result LogItem BadLog). IsHeadSaid rules.form placed said c.parse_whole-2.result)
    (all ∙ sym (in_columns rules columns c.args.word fields c.requires) ∙ sym some)
    (head_said rules c.args.word from placed extras c.parse_whole-2.result word c.parse_whole-2.ensures)

pub returns-clause-small : goal.returns-clause-small
returns-clause-small c =
    let small = subst (λ (r : Result Extras LogColumn). AreSmallExtras r) (sym c.beside-beside.ensures.extras)
    (small_extras c.args.rules.form c.in-Some.columns c.args.word (fields_of c.args.fields.now)) in
    subst HasSmallHead (sym c.parse_whole-2.ensures)
    (small_head (head_of c.args.rules c.args.word (option_map (λ (from : Bor (List ℕ)). from.now) c.beside-beside.result.from) (fields_of c.arrange.new.placed))
    c.beside-beside.result.extras small)
