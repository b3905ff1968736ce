use Rattle.std.proofs.Common.{◌≡◌, ◌∙◌, ◌+◌, ◌++◌, ◌∷◌, [], List, true, false, ap, arith, filter, length, map, sym, take, take_all, ◌≤◌}
use Rattle.csv.specs.Records.{fields_of}
use Rattle.hlc_csv.specs.Rows.{Fields}
use Rattle.hlc_audit_forms.specs.AuditText.{below_title, is_row_of, section_text}
use Rattle.hlc_audit_forms.proofs.Lists.{has_none, has_none-more, passed-less, passed-more, rows-more}
use Rattle.hlc_audit_forms.proofs.SectionLines.{line-written}
use Rattle.hlc_audit_forms.proofs.audit_text.put_section.Goals as goal
use Rattle.hlc_audit_forms.proofs.audit_text.put_section.Goals.{then-is_row_of+in_ok-put_title+in_ok-put_row, else-is_row_of}

pub loop-row-preserved : goal.loop-row-preserved
loop-row-preserved c =
    let at = c.loop-row.row-index in
    let rows = c.args.rows.now in
    let s = c.args.section in
    let p = is_row_of s in
    let before = map fields_of (take at rows) in
    let row = c.row-item.result in
    let fields = fields_of row in
    let next = rows-more rows at row c.loop-row-test.true c.row-item.is in
    let so_far = filter p before in
    let old = c.args.text.now.items in
    elim c.if-is_row_of.branch [
      | then-is_row_of+in_ok-put_title+in_ok-put_row w ↦
          let is : p fields ≡ true = sym c.is_row_of.ensures ∙ w.if-is_row_of.true in
          let all : filter p (map fields_of (take (at + 1) rows)) ≡ so_far ++ fields ∷ [] =
          ap (filter p) next ∙ passed-more p before fields is in (
            rw w.text-is (line-written s old c.loop-row.text.items w.put_title.new.text.items w.put_row.new.text.items so_far _ fields c.loop-row.is_first
                c.loop-row.invariant.0 w.in_ok-put_title.ensures w.in_ok-put_row.ensures c.loop-row.invariant.1 all),
            w.is_first-is ∙ has_none-more so_far fields ∙ ap has_none (sym all),
          )
      | else-is_row_of w ↦
          let is : p fields ≡ false = sym c.is_row_of.ensures ∙ w.if-is_row_of.false in
          let all : filter p (map fields_of (take (at + 1) rows)) ≡ so_far = ap (filter p) next ∙ passed-less p before fields is in (
            rw w.text-is (c.loop-row.invariant.0 ∙ ap (λ (told : List Fields). old ++ below_title s told) (sym all)),
            w.is_first-is ∙ c.loop-row.invariant.1 ∙ ap has_none (sym all),
          )
    ]

pub returns : goal.returns
unfolding section_text
returns c =
    let at = c.loop-row.row-index in
    let rows = c.args.rows.now in
    let beyond : length rows ≤ at = omega arith in
    rw (take_all at rows beyond) at c.loop-row.invariant.0
