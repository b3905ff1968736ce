-- Lists, one item more.
use Rattle.std.proofs.Common.{◌≡◌, ◌∙◌, ◌+◌, ◌-◌, ◌≤◌, ◌<◌, Bool, true, false, ℕ, zero, suc, List, [], ◌∷◌, ◌++◌, append-nil, ap, arith, cond, drop, filter, get_or, length, map, refl, sym, take}
use Rattle.std.proofs.lemmas.List.{get_or-drop, length-drop, map_push, take_more}
use Rattle.std.proofs.lemmas.List.Elements.{filter-append}
use Rattle.csv.specs.Records.{Row, fields_of}
use Rattle.hlc_csv.specs.Rows.{Fields, field_of}

-- whether a list has no item
abbrev pub has_none : {A : Type 0} → List A → Bool
has_none [] = true
has_none (x ∷ xs) = false

pub has_none-more : {A : Type 0} (items : List A) (item : A) → false ≡ has_none (items ++ item ∷ [])
has_none-more [] item = refl
has_none-more (x ∷ items) item = refl

-- one item more passes a test, or not
pub passed-more : {A : Type 0} (p : A → Bool) (items : List A) (item : A) → p item ≡ true → filter p (items ++ item ∷ []) ≡ filter p items ++ item ∷ []
passed-more {A} p items item is =
    let single : filter p (item ∷ []) ≡ item ∷ [] = ap (λ (b : Bool). cond b (item ∷ []) []) is in
    filter-append p items (item ∷ []) ∙ ap (λ (rest : List A). filter p items ++ rest) single

pub passed-less : {A : Type 0} (p : A → Bool) (items : List A) (item : A) → p item ≡ false → filter p (items ++ item ∷ []) ≡ filter p items
passed-less {A} p items item is =
    let none : filter p (item ∷ []) ≡ [] = ap (λ (b : Bool). cond b (item ∷ []) []) is in
    filter-append p items (item ∷ []) ∙ ap (λ (rest : List A). filter p items ++ rest) none ∙ append-nil (filter p items)

-- the fields of one row more
pub rows-more : (rows : List Row) (i : ℕ) (row : Row) → i < length rows → row ≡ get_or rows i row
    → map fields_of (take (i + 1) rows) ≡ map fields_of (take i rows) ++ fields_of row ∷ []
rows-more rows i row within is =
    ap (map fields_of) (take_more rows i row within ∙ ap (λ (r : Row). take i rows ++ r ∷ []) (sym is)) ∙ map_push fields_of (take i rows) row

-- the field at a place
field_of-get : (fields : Fields) (place : ℕ) → get_or fields place [] ≡ field_of fields place
field_of-get [] place = refl
field_of-get (field ∷ fields) zero = refl
field_of-get (field ∷ fields) (suc place) = field_of-get fields place

-- one field more of those from a place on
pub fields-more : (fields : Fields) (start place : ℕ) → start ≤ place → place < length fields
    → take (place + 1 - start) (drop start fields) ≡ take (place - start) (drop start fields) ++ field_of fields place ∷ []
fields-more fields start place from within =
    let next : place + 1 - start ≡ (place - start) + 1 = omega arith in
    let left : place - start < length (drop start fields) = simp length-drop (omega arith) in
    let at : start + (place - start) ≡ place = omega arith in
    let here : get_or (drop start fields) (place - start) [] ≡ field_of fields place =
    get_or-drop start fields (place - start) [] ∙ ap (λ (n : ℕ). get_or fields n []) at ∙ field_of-get fields place in
    ap (λ (n : ℕ). take n (drop start fields)) next ∙ take_more (drop start fields) (place - start) [] left
    ∙ ap (λ (field : List ℕ). take (place - start) (drop start fields) ++ field ∷ []) here
