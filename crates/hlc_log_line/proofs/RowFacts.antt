-- How the text of a row grows, byte by byte and field by field.
use Rattle.std.proofs.Common.{◌≡◌, ◌∙◌, ℕ, ◌+◌, ◌-◌, ◌≤◌, ◌<◌, List, [], ◌∷◌, ◌++◌, Bor, length, map, take, drop, get_or, refl, sym, ap, append_assoc, take-append-drop, take_all, length-append, arith}
use Rattle.std.proofs.lemmas.List.{map-append, take_more}
use Rattle.csv.specs.Writing.{escaped, field_text, fields_text, is_blank, row_body}
use Rattle.csv.proofs.WriteFacts.{escaped-append}
use Rattle.hlc_csv.specs.Rows.{Fields, row_setup, text_of_row}
use Rattle.hlc_csv.proofs.RowTextFacts.{fields_text-next}

-- one byte more between quotes
pub escaped-next : (field : List ℕ) (i : ℕ) → i < length field
    → escaped row_setup (take (i + 1) field) ≡ escaped row_setup (take i field) ++ escaped row_setup (get_or field i 0 ∷ [])
escaped-next field i within =
    ap (escaped row_setup) (take_more field i 0 within) ∙ escaped-append row_setup (take i field) (get_or field i 0 ∷ [])

-- with it, what stands between quotes is no longer than it is in the end
pub length-escaped-next : (field : List ℕ) (i : ℕ) → i < length field
    → length (escaped row_setup (take i field)) + length (escaped row_setup (get_or field i 0 ∷ [])) ≤ length (escaped row_setup field)
length-escaped-next field i within =
    let done = escaped row_setup (take (i + 1) field) in
    let rest = escaped row_setup (drop (i + 1) field) in
    let whole : escaped row_setup field ≡ done ++ rest =
    ap (escaped row_setup) (sym (take-append-drop (i + 1) field)) ∙ escaped-append row_setup (take (i + 1) field) (drop (i + 1) field) in
    let so_far = escaped row_setup (take i field) in
    let next = escaped row_setup (get_or field i 0 ∷ []) in
    let all : length (escaped row_setup field) ≡ length done + length rest = ap length whole ∙ length-append done rest in
    let grown : length done ≡ length so_far + length next = ap length (escaped-next field i within) ∙ length-append so_far next in
    omega (arith, all, grown)

-- fields after others, in two parts
fields_text-append : (xs ys : Fields) → fields_text row_setup (xs ++ ys) ≡ fields_text row_setup xs ++ fields_text row_setup ys
unfolding fields_text
fields_text-append [] ys = refl
fields_text-append (x ∷ xs) ys =
    ap (λ (t : List ℕ). 44 ∷ (field_text row_setup x ++ t)) (fields_text-append xs ys)
    ∙ ap (λ (t : List ℕ). 44 ∷ t) (sym (append_assoc (field_text row_setup x) (fields_text row_setup xs) (fields_text row_setup ys)))

-- the bytes of fields
abbrev pub bytes_of : List (Bor (List ℕ)) → Fields
bytes_of fields = map (λ field. field.now) fields

-- one field more after others
pub fields-next : (fields : List (Bor (List ℕ))) (i : ℕ) (d : Bor (List ℕ)) → i < length fields
    → fields_text row_setup (bytes_of (take (i + 1) fields))
    ≡ fields_text row_setup (bytes_of (take i fields)) ++ (44 ∷ field_text row_setup (get_or fields i d).now)
fields-next fields i d within = sym (fields_text-next [] (λ field. field.now) fields i d within)

-- with it, the fields are no longer than they are in the end
pub length-fields-next : (fields : List (Bor (List ℕ))) (i : ℕ) (d : Bor (List ℕ)) → i < length fields
    → length (fields_text row_setup (bytes_of (take i fields))) + (1 + length (field_text row_setup (get_or fields i d).now))
    ≤ length (fields_text row_setup (bytes_of fields))
length-fields-next fields i d within =
    let done = fields_text row_setup (bytes_of (take (i + 1) fields)) in
    let rest = fields_text row_setup (bytes_of (drop (i + 1) fields)) in
    let parts : bytes_of fields ≡ bytes_of (take (i + 1) fields) ++ bytes_of (drop (i + 1) fields) =
    ap bytes_of (sym (take-append-drop (i + 1) fields)) ∙ map-append (λ field. field.now) (take (i + 1) fields) (drop (i + 1) fields) in
    let whole : fields_text row_setup (bytes_of fields) ≡ done ++ rest =
    ap (fields_text row_setup) parts ∙ fields_text-append (bytes_of (take (i + 1) fields)) (bytes_of (drop (i + 1) fields)) in
    let so_far = fields_text row_setup (bytes_of (take i fields)) in
    let next = 44 ∷ field_text row_setup (get_or fields i d).now in
    let all : length (fields_text row_setup (bytes_of fields)) ≡ length done + length rest = ap length whole ∙ length-append done rest in
    let grown : length done ≡ length so_far + length next = ap length (fields-next fields i d within) ∙ length-append so_far next in
    omega (arith, all, grown)

-- all fields but the first
abbrev pub others : List (Bor (List ℕ)) → List (Bor (List ℕ))
others fields = take (length fields - 1) (drop 1 fields)

-- the body of a row, in its first field and the others
pub body-parts : (fields : List (Bor (List ℕ))) (d : Bor (List ℕ)) → 1 ≤ length fields
    → row_body row_setup (bytes_of fields) ≡ field_text row_setup (get_or fields 0 d).now ++ fields_text row_setup (bytes_of (others fields))
body-parts [] d some = absurd (omega arith)
body-parts (f ∷ fs) d some =
    ap (λ (rest : List (Bor (List ℕ))). field_text row_setup f.now ++ fields_text row_setup (bytes_of rest))
    (sym (take_all (length (f ∷ fs) - 1) fs (omega arith)))

-- the row of several fields ends with a line feed
pub text-several : (fields : List (Bor (List ℕ))) → 2 ≤ length fields → text_of_row (bytes_of fields) ≡ row_body row_setup (bytes_of fields) ++ 10 ∷ []
unfolding text_of_row is_blank
text-several [] several = absurd (omega arith)
text-several (f ∷ []) several = absurd (omega arith)
text-several (f ∷ g ∷ fs) several = refl
