-- Lists with commas, one item more.
use Rattle.std.proofs.Common.{◌≡◌, ◌∙◌, ◌+◌, ◌-◌, ◌≤◌, ◌<◌, ◌==◌, Bool, true, false, ℕ, zero, suc, List, [], ◌∷◌, ◌++◌, append_assoc, append-nil, ap, arith, drop, filter, get_or, length, map, refl, rules, sym, take}
use Rattle.std.specs.List.{join_with_byte}
use Rattle.std.specs.Prelude.{if◌then◌else◌}
use Rattle.std.proofs.lemmas.Bool.Decides.{nat_tests}
use Rattle.std.proofs.lemmas.List.{length-drop, length-take-le, map_push, take_more}
use Rattle.hlc_csv.specs.Rows.{Fields, field_of}
use Rattle.hlc_audit_forms.specs.JsonColumn.{member_text}
use Rattle.hlc_audit_forms.specs.JsonRows.{column_members}
use Rattle.hlc_audit_forms.specs.JsonText.{comma_before}
use Rattle.hlc_audit_forms.specs.declared.json_column.JsonColumn.{JsonColumn}
use Rattle.hlc_audit_forms.proofs.Lists.{fields-more, has_none, passed-less, passed-more}

-- one item more, behind a comma unless it is the first
pub join-more : (texts : List (List ℕ)) (text : List ℕ)
    → join_with_byte 44 (texts ++ text ∷ []) ≡ join_with_byte 44 texts ++ (comma_before (has_none texts) ++ text)
join-more [] text = refl
join-more (x ∷ []) text = refl
join-more (x ∷ y ∷ texts) text =
    ap (λ (rest : List ℕ). x ++ 44 ∷ rest) (join-more (y ∷ texts) text)
    ∙ sym (append_assoc x (44 ∷ join_with_byte 44 (y ∷ texts)) (comma_before false ++ text))

-- so it is behind other text
pub item-added : (before : List ℕ) (texts : List (List ℕ)) (is_first : Bool) (text : List ℕ) → is_first ≡ has_none texts
    → ((before ++ join_with_byte 44 texts) ++ comma_before is_first) ++ text ≡ before ++ join_with_byte 44 (texts ++ text ∷ [])
item-added before texts is_first text same =
    ap (λ (first : Bool). ((before ++ join_with_byte 44 texts) ++ comma_before first) ++ text) same
    ∙ append_assoc (before ++ join_with_byte 44 texts) (comma_before (has_none texts)) text
    ∙ append_assoc before (join_with_byte 44 texts) (comma_before (has_none texts) ++ text)
    ∙ ap (λ (rest : List ℕ). before ++ rest) (sym (join-more texts text))

-- so it is of what was written in three steps
pub item-written : (before now with_comma after : List ℕ) (texts all : List (List ℕ)) (is_first : Bool) (text : List ℕ)
    → now ≡ before ++ join_with_byte 44 texts → with_comma ≡ now ++ comma_before is_first → after ≡ with_comma ++ text
    → is_first ≡ has_none texts → all ≡ texts ++ text ∷ [] → after ≡ before ++ join_with_byte 44 all
item-written before now with_comma after texts all is_first text so_far comma item same one_more =
    item ∙ ap (λ (t : List ℕ). t ++ text) (comma ∙ ap (λ (t : List ℕ). t ++ comma_before is_first) so_far)
    ∙ item-added before texts is_first text same ∙ ap (λ (ts : List (List ℕ)). before ++ join_with_byte 44 ts) (sym one_more)

-- a place is the first just if no item stands before it
pub is_first : {A B : Type 0} (f : A → B) (xs : List A) (i : ℕ) → i < length xs → (i == 0) ≡ has_none (map f (take i xs))
is_first f xs zero within = refl
is_first f [] (suc i) within = absurd (omega arith)
is_first f (x ∷ xs) (suc i) within = search rules

-- one column more
pub members-push : (place : ℕ) (columns : List JsonColumn) (column : JsonColumn) (fields : Fields)
    → column_members place (columns ++ column ∷ []) fields
    ≡ column_members place columns fields ++ member_text column (field_of fields (place + length columns)) ∷ []
members-push place [] column fields =
    let same : place ≡ place + 0 = omega arith in
    ap (λ (at : ℕ). member_text column (field_of fields at) ∷ []) same
members-push place (first ∷ columns) column fields =
    let same : place + 1 + length columns ≡ place + length (first ∷ columns) = omega arith in
    ap (λ (rest : List (List ℕ)). member_text first (field_of fields place) ∷ rest)
    (members-push (place + 1) columns column fields
    ∙ ap (λ (at : ℕ). column_members (place + 1) columns fields ++ member_text column (field_of fields at) ∷ []) same)

pub members-more : (columns : List JsonColumn) (fields : Fields) (i : ℕ) (d : JsonColumn) → i < length columns
    → column_members 0 (take (i + 1) columns) fields
    ≡ column_members 0 (take i columns) fields ++ member_text (get_or columns i d) (field_of fields i) ∷ []
members-more columns fields i d within =
    let le : i ≤ length columns = omega arith in
    let at : 0 + length (take i columns) ≡ i = omega (arith, length-take-le i columns le) in
    ap (λ (cs : List JsonColumn). column_members 0 cs fields) (take_more columns i d within)
    ∙ members-push 0 (take i columns) (get_or columns i d) fields
    ∙ ap (λ (n : ℕ). column_members 0 (take i columns) fields ++ member_text (get_or columns i d) (field_of fields n) ∷ []) at

pub is_first_member : (columns : List JsonColumn) (fields : Fields) (i : ℕ) → i < length columns → (i == 0) ≡ has_none (column_members 0 (take i columns) fields)
is_first_member columns fields zero within = refl
is_first_member [] fields (suc i) within = absurd (omega arith)
is_first_member (x ∷ columns) fields (suc i) within = search rules

-- a row has members for its columns just if it has columns
pub has_columns : (place : ℕ) (columns : List JsonColumn) (fields : Fields) → (length columns == 0) ≡ has_none (column_members place columns fields)
has_columns place [] fields = refl
has_columns place (x ∷ columns) fields = search rules

-- one line more of those from a place on
pub lines-more : (f : List ℕ → List ℕ) (fields : Fields) (start place : ℕ) → start ≤ place → place < length fields
    → map f (take (place + 1 - start) (drop start fields)) ≡ map f (take (place - start) (drop start fields)) ++ f (field_of fields place) ∷ []
lines-more f fields start place from within =
    ap (map f) (fields-more fields start place from within) ∙ map_push f (take (place - start) (drop start fields)) (field_of fields place)

pub is_first_line : (f : List ℕ → List ℕ) (fields : Fields) (start place : ℕ) → start ≤ place → place < length fields
    → (place == start) ≡ has_none (map f (take (place - start) (drop start fields)))
is_first_line f fields start place from within =
    let left : place - start < length (drop start fields) = simp length-drop (omega arith) in
    let same : (place == start) ≡ (place - start == 0) = grind (arith, nat_tests) in
    same ∙ is_first f (drop start fields) (place - start) left

-- one item more is told, or left out
pub told-more : {A : Type 0} (p : A → Bool) (f : A → List ℕ) (items : List A) (item : A) → p item ≡ true
    → map f (filter p (items ++ item ∷ [])) ≡ map f (filter p items) ++ f item ∷ []
told-more p f items item is = ap (map f) (passed-more p items item is) ∙ map_push f (filter p items) item

pub told-less : {A : Type 0} (p : A → Bool) (f : A → List ℕ) (items : List A) (item : A) → p item ≡ false
    → map f (filter p (items ++ item ∷ [])) ≡ map f (filter p items)
told-less p f items item is = ap (map f) (passed-less p items item is)

-- a member that may be there, behind those of columns
pub join-behind : (columns : List JsonColumn) (fields : Fields) (m : List ℕ) (is_there : Bool)
    → join_with_byte 44 (column_members 0 columns fields ++ (if is_there then m ∷ [] else []))
    ≡ join_with_byte 44 (column_members 0 columns fields) ++ (if is_there then comma_before (length columns == 0) ++ m else [])
join-behind columns fields m true =
    let members = column_members 0 columns fields in
    join-more members m ∙ ap (λ (first : Bool). join_with_byte 44 members ++ (comma_before first ++ m)) (sym (has_columns 0 columns fields))
join-behind columns fields m false =
    let members = column_members 0 columns fields in
    ap (join_with_byte 44) (append-nil members) ∙ sym (append-nil (join_with_byte 44 members))

-- an object, opened and closed around its members
pub object-closed : (old columns behind all : List ℕ) → all ≡ columns ++ behind
    → (((old ++ 123 ∷ []) ++ columns) ++ behind) ++ 125 ∷ [] ≡ old ++ 123 ∷ (all ++ 125 ∷ [])
object-closed old columns behind all same = rw same (simp append_assoc)

-- a member with a list, and all members, opened and closed
pub member-closed : (old name items : List ℕ)
    → (((old ++ (name ++ 58 ∷ [])) ++ 91 ∷ []) ++ items) ++ 93 ∷ [] ≡ old ++ (name ++ 58 ∷ (91 ∷ (items ++ 93 ∷ [])))
member-closed old name items = simp append_assoc

pub all-closed : (old members : List ℕ) → ((old ++ 123 ∷ []) ++ members) ++ 125 ∷ 10 ∷ [] ≡ old ++ 123 ∷ (members ++ 125 ∷ 10 ∷ [])
all-closed old members = simp append_assoc
