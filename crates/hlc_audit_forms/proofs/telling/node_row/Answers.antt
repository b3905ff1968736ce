use Rattle.std.proofs.Common.{◌≡◌, ◌∙◌, ◌+◌, ◌≤◌, ◌<◌, ◌&&◌, Bool, true, false, ℕ, List, Some, ap, arith, codes, cond, drop, get_or, length, map, sym}
use Rattle.std.specs.Prelude.{bytes_eq}
use Rattle.std.proofs.lemmas.List.{at_drop_all, at_drop_more}
use Rattle.csv.specs.Records.{Row, fields_of}
use Rattle.hlc_csv.specs.Rows.{field_of}
use Rattle.hlc_audit_forms.specs.Told.{node_row}
use Rattle.hlc_audit_forms.proofs.telling.node_row.Goals as goal

-- the first of those from a place on
found-by : (rows : List Row) (name : List ℕ) (i : ℕ) (row : Row) (b : Bool) → i < length rows → row ≡ get_or rows i row
    → b ≡ (bytes_eq (field_of (fields_of row) 0) (codes "node") && bytes_eq (field_of (fields_of row) 1) name)
    → node_row (map fields_of (drop i rows)) name ≡ cond b (Some (fields_of row)) (node_row (map fields_of (drop (i + 1) rows)) name)
found-by rows name i row b within here is =
    let rest = node_row (map fields_of (drop (i + 1) rows)) name in
    let test : Row → Bool = λ r. bytes_eq (field_of (fields_of r) 0) (codes "node") && bytes_eq (field_of (fields_of r) 1) name in
    at_drop_more (λ (left : List Row). node_row (map fields_of left) name) rows i row within
    ∙ ap (λ (r : Row). cond (test r) (Some (fields_of r)) rest) (sym here)
    ∙ ap (λ (passes : Bool). cond passes (Some (fields_of row)) rest) (sym is)

pub returns-then-is_node_row : goal.returns-then-is_node_row
returns-then-is_node_row c =
    sym (found-by c.args.rows.now c.args.name.now c.loop-row.row-index c.row-item.result true c.loop-row-test.true c.row-item.is
    (sym c.if-is_node_row.true ∙ c.is_node_row.ensures)) ∙ c.loop-row.invariant

pub loop-row-preserved : goal.loop-row-preserved
loop-row-preserved c =
    sym (found-by c.args.rows.now c.args.name.now c.loop-row.row-index c.row-item.result false c.loop-row-test.true c.row-item.is
    (sym c.if-is_node_row.false ∙ c.is_node_row.ensures)) ∙ c.loop-row.invariant

pub returns : goal.returns
returns c =
    let at = c.loop-row.row-index in
    let rows = c.args.rows.now in
    let beyond : length rows ≤ at = omega arith in
    sym (at_drop_all (λ (left : List Row). node_row (map fields_of left) c.args.name.now) rows at beyond) ∙ c.loop-row.invariant
