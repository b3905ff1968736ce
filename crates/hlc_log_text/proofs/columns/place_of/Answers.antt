use Rattle.std.proofs.Common.{◌≡◌, ◌∙◌, ◌<◌, ◌≤◌, ℕ, List, [], ◌∷◌, ap, arith, false, length, refl, suc, sym, true, zero}
use Rattle.std.specs.Prelude.{bytes_eq, get_or}
use Rattle.std.proofs.lemmas.List.Sums.{position_or_len_is}
use Rattle.csv.specs.Records.{fields_of}
use Rattle.hlc_csv.specs.Rows.{Fields, field_of}
use Rattle.hlc_log_text.specs.Columns.{column_in}
use Rattle.hlc_log_text.proofs.columns.place_of.Goals as goal

-- a field by its place
field_get : (fields : Fields) (k : ℕ) → field_of fields k ≡ get_or fields k []
field_get [] k = refl
field_get (f ∷ fields) zero = refl
field_get (f ∷ fields) (suc k) = field_get fields k

-- the first column of a name, if those before it have other names
column_is : (header : Fields) (name : List ℕ) (i : ℕ) → i ≤ length header
    → ((k : ℕ) → k < i → bytes_eq (field_of header k) name ≡ false) → (i < length header → bytes_eq (field_of header i) name ≡ true)
    → i ≡ column_in header name
column_is header name i within others has =
    let same : (k : ℕ) → bytes_eq (get_or header k []) name ≡ bytes_eq (field_of header k) name =
    λ k. ap (λ (field : List ℕ). bytes_eq field name) (sym (field_get header k)) in
    sym (position_or_len_is (λ (field : List ℕ). bytes_eq field name) header i [] within (λ k below. same k ∙ others k below) (λ below. same i ∙ has below))

pub returns-then-eq : goal.returns-then-eq
returns-then-eq c =
    column_is (fields_of c.args.header.now) c.args.name.now c.loop-place.place (omega arith) c.loop-place.invariant (λ below. grind arith)

pub returns : goal.returns
returns c =
    column_is (fields_of c.args.header.now) c.args.name.now c.len.result (omega arith) (λ k below. c.loop-place.invariant k (omega arith))
    (λ below. absurd (omega arith))
