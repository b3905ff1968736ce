use Rattle.std.proofs.Common.{List, [], ◌∷◌, ◌++◌, Some, ◌≡◌, ◌∙◌, map, ap, subst, sym}
use Rattle.std.proofs.lemmas.List.{map_push}
use Rattle.csv.specs.Records.{fields_of}
use Rattle.csv.specs.Records.{Row}
use Rattle.hlc_csv.specs.RecordReader.{HasReadTo}
use Rattle.hlc_csv.specs.Records.{AreAllOf}
use Rattle.hlc_csv.specs.Rows.{Fields}
use Rattle.hlc_audit_forms.proofs.rows.read_all.Goals as goal

pub loop-row-init : goal.loop-row-init
loop-row-init g c = λ text start.
    ([], subst (λ (rows : List Row). HasReadTo g.R.Read.remaining c.args.input.now (Some text) (map fields_of rows) []) (sym c.requires) start)

pub loop-row-preserved : goal.loop-row-preserved
loop-row-preserved g c = λ text start.
    let so_far = c.loop-row.invariant text start in
    let rows = c.loop-row.rows.items in
    let fields = c.read_row.new.fields in
    let read = rw c.in-Some.is at c.in_ok-found.ensures in
    let one = rw c.if-found.false at (read (Some text) (map fields_of rows) so_far.0 so_far.1) in
    let pushed : map fields_of c.push.new.self.items ≡ map fields_of rows ++ fields_of fields ∷ [] =
    ap (map fields_of) c.in_ok-push.ensures.items ∙ map_push fields_of rows fields in
    (so_far.0 ++ c.in-Some.found.line ∷ [], subst (λ (told : List Fields). HasReadTo g.R.Read.remaining c.read_row.new.input (Some text) told (so_far.0 ++ c.in-Some.found.line ∷ [])) (sym pushed) one.0)

pub returns-in_default : goal.returns-in_default
returns-in_default g c = λ text start.
    let so_far = c.loop-row.invariant text start in
    let read = rw c.in_default.is at c.in_ok-found.ensures in
    (read (Some text) (map fields_of c.loop-row.rows.items) so_far.0 so_far.1).all

pub returns-then-found : goal.returns-then-found
returns-then-found g c = λ text start.
    let so_far = c.loop-row.invariant text start in
    let rows = c.loop-row.rows.items in
    let fields = c.read_row.new.fields in
    let read = rw c.in-Some.is at c.in_ok-found.ensures in
    let one = rw c.if-found.true at (read (Some text) (map fields_of rows) so_far.0 so_far.1) in
    let pushed : map fields_of c.push.new.self.items ≡ map fields_of rows ++ fields_of fields ∷ [] =
    ap (map fields_of) c.in_ok-push.ensures.items ∙ map_push fields_of rows fields in
    subst (AreAllOf (Some text)) (sym pushed) one.ends.0
