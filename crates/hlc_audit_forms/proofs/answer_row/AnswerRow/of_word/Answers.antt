use Rattle.std.proofs.Common.{◌≡◌, ◌∙◌, List, ℕ, true, false, ap, get_or, sym}
use Rattle.std.specs.Prelude.{bytes_eq}
use Rattle.hlc_audit_forms.specs.AnswerRow.{answer_rows, answer_word}
use Rattle.hlc_audit_forms.specs.declared.answer_row.AnswerRow.{AnswerRow}
use Rattle.hlc_audit_forms.specs.declared.answer_row.AnswerRow.TheVariants.{Chain}
use Rattle.hlc_audit_forms.proofs.FoundItems.{first-here, first-later}
use Rattle.hlc_audit_forms.proofs.answer_row.AnswerRow.of_word.Goals as goal

pub returns-then-eq : goal.returns-then-eq
returns-then-eq c =
    let word = c.args.word.now in
    let test = λ (r : AnswerRow). bytes_eq (answer_word r) word in
    let is : test (get_or answer_rows c.loop-row.row-index Chain) ≡ true =
    ap (λ (name : List ℕ). bytes_eq name word) (sym c.word.ensures) ∙ sym c.eq.ensures ∙ c.if-eq.true in
    sym (first-here test answer_rows c.loop-row.row-index Chain c.loop-row-test.true is) ∙ c.loop-row.invariant

pub loop-row-preserved : goal.loop-row-preserved
loop-row-preserved c =
    let word = c.args.word.now in
    let test = λ (r : AnswerRow). bytes_eq (answer_word r) word in
    let is : test (get_or answer_rows c.loop-row.row-index Chain) ≡ false =
    ap (λ (name : List ℕ). bytes_eq name word) (sym c.word.ensures) ∙ sym c.eq.ensures ∙ c.if-eq.false in
    sym (first-later test answer_rows c.loop-row.row-index Chain c.loop-row-test.true is) ∙ c.loop-row.invariant
