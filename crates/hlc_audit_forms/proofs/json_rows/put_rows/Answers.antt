use Rattle.std.proofs.Common.{◌≡◌, ◌∙◌, ◌+◌, ◌++◌, ◌∷◌, [], List, ℕ, true, false, ap, filter, map, sym, take}
use Rattle.std.specs.List.{join_with_byte}
use Rattle.csv.specs.Records.{fields_of}
use Rattle.hlc_csv.specs.Rows.{Fields}
use Rattle.hlc_audit_forms.specs.JsonRows.{is_row_of, row_object}
use Rattle.hlc_audit_forms.proofs.CommaLists.{item-written, told-less, told-more}
use Rattle.hlc_audit_forms.proofs.Lists.{has_none, has_none-more, rows-more}
use Rattle.hlc_audit_forms.proofs.json_rows.put_rows.Goals as goal
use Rattle.hlc_audit_forms.proofs.json_rows.put_rows.Goals.{then-is_row_of+in_ok-put_comma+in_ok-put_row, else-is_row_of}

pub loop-row-preserved : goal.loop-row-preserved
loop-row-preserved c =
    let at = c.loop-row.row-index in
    let rows = c.args.rows.now in
    let p = is_row_of c.args.member in
    let before = map fields_of (take at rows) in
    let row = c.row-item.result in
    let fields = fields_of row in
    let next = rows-more rows at row c.loop-row-test.true c.row-item.is in
    let so_far = map row_object (filter p before) in
    let old = c.args.text.now.items in
    elim c.if-is_row_of.branch [
      | then-is_row_of+in_ok-put_comma+in_ok-put_row w ↦
          let is : p fields ≡ true = sym c.is_row_of.ensures ∙ w.if-is_row_of.true in
          let all : map row_object (filter p (map fields_of (take (at + 1) rows))) ≡ so_far ++ row_object fields ∷ [] =
          ap (λ (fs : List Fields). map row_object (filter p fs)) next ∙ told-more p row_object before fields is in (
            rw w.text-is (item-written old c.loop-row.text.items w.put_comma.new.text.items w.put_row.new.text.items so_far _ c.loop-row.is_first (row_object fields)
                c.loop-row.invariant.0 w.in_ok-put_comma.ensures w.in_ok-put_row.ensures c.loop-row.invariant.1 all),
            w.is_first-is ∙ has_none-more so_far (row_object fields) ∙ ap has_none (sym all),
          )
      | else-is_row_of w ↦
          let is : p fields ≡ false = sym c.is_row_of.ensures ∙ w.if-is_row_of.false in
          let all : map row_object (filter p (map fields_of (take (at + 1) rows))) ≡ so_far =
          ap (λ (fs : List Fields). map row_object (filter p fs)) next ∙ told-less p row_object before fields is in (
            rw w.text-is (c.loop-row.invariant.0 ∙ ap (λ (texts : List (List ℕ)). old ++ join_with_byte 44 texts) (sym all)),
            w.is_first-is ∙ c.loop-row.invariant.1 ∙ ap has_none (sym all),
          )
    ]
