-- How the text of a row grows, field by field.
use Rattle.std.proofs.Common.{◌≡◌, ◌∙◌, ℕ, ◌+◌, ◌-◌, ◌^◌, ◌<◌, ◌≤◌, ◌==◌, Bool, true, false, List, [], ◌∷◌, ◌++◌, Result, Ok, Err, length, map, decimal, get_or, take, inl, inr, lit<, refl, sym, ap, append_assoc, append-nil, length-append, arith}
use Rattle.std.specs.Prelude.{OnOk, codes, if◌then◌else◌}
use Rattle.std.specs.Result.{is_ok}
use Rattle.std.specs.Char.{is_ascii_digit}
use Rattle.std.specs.Str.{all_ascii_digits}
use Rattle.std.proofs.lemmas.Bool.{cases_Bool, ne_eqb}
use Rattle.std.proofs.lemmas.Bool.Decides.{nat_tests}
use Rattle.std.proofs.lemmas.List.{map_more}
use Rattle.csv.specs.Writing.{field_text, fields_text, is_blank, needs_byte, needs_quotes, row_body}
use Rattle.csv.proofs.WriteFacts.{fields-snoc}
use Rattle.hlc_csv.specs.Rows.{Fields, refusal_row, row_end, row_setup, text_of_row}
use Rattle.hlc_csv.proofs.DecimalFacts.{all_digits-decimal}

-- a row ends as its body tells
text_of_row-ended : (fields : Fields) → text_of_row fields ≡ row_body row_setup fields ++ row_end (length (row_body row_setup fields))
unfolding text_of_row is_blank fields_text
text_of_row-ended [] = refl
text_of_row-ended (f ∷ []) = rw (append-nil (field_text row_setup f)) refl
text_of_row-ended (f ∷ g ∷ fs) =
    let body = row_body row_setup (f ∷ g ∷ fs) in
    let shown : 1 ≤ length body = omega (arith, length-append (field_text row_setup f) (fields_text row_setup (g ∷ fs))) in
    rw (ne_eqb (length body) 0 (λ e. absurd (omega arith))) refl

-- a digit needs no quotes
digit-plain : (d : ℕ) → is_ascii_digit d ≡ true → needs_byte row_setup d ≡ false
digit-plain d digit =
    let low : 48 ≤ d = grind (arith, nat_tests, digit) in
    let other : (b : ℕ) → b < 48 → (d == b) ≡ false = λ b below. ne_eqb d b (λ e. absurd (omega arith)) in
    rw (other 44 (lit< tt), other 34 (lit< tt), other 13 (lit< tt), other 10 (lit< tt)) refl

-- digits need none
needs_quotes-digits : (ds : List ℕ) → all_ascii_digits ds ≡ true → needs_quotes row_setup ds ≡ false
needs_quotes-digits [] all = refl
needs_quotes-digits (d ∷ ds) all =
    elim (cases_Bool (is_ascii_digit d)) [
      | inl digit ↦ rw (digit-plain d digit) (needs_quotes-digits ds (rw digit at all))
      | inr other ↦ absurd (let no : ◌≡◌ {A = Bool} false true = rw other at all in cc no)
    ]

-- a number is written as it is
pub field_text-decimal : (n : ℕ) → n < 2 ^ 64 → field_text row_setup (decimal n) ≡ decimal n
field_text-decimal n small = rw (needs_quotes-digits (decimal n) (all_digits-decimal n small)) refl

-- one more of many fields after others
pub fields_text-next : {A : Type 0} (before : List ℕ) (bytes : A → List ℕ) (xs : List A) (i : ℕ) (d : A) → i < length xs
    → (before ++ fields_text row_setup (map bytes (take i xs))) ++ (44 ∷ field_text row_setup (bytes (get_or xs i d)))
    ≡ before ++ fields_text row_setup (map bytes (take (i + 1) xs))
fields_text-next before bytes xs i d within =
    let fields = map bytes (take i xs) in
    let next = bytes (get_or xs i d) in
    append_assoc before (fields_text row_setup fields) (44 ∷ field_text row_setup next)
    ∙ ap (λ (t : List ℕ). before ++ t) (sym (rw (map_more bytes xs i d within) (fields-snoc row_setup fields next)))

-- a row whose fields follow a text is ended
pub row-ended : (before now end : List ℕ) (start : ℕ) (fields : Fields)
    → start ≡ length before → now ≡ before ++ row_body row_setup fields → end ≡ now ++ row_end (length now - start)
    → end ≡ before ++ text_of_row fields
row-ended before now end start fields begins grown ended =
    let body = row_body row_setup fields in
    let size : length now ≡ length before + length body = ap length grown ∙ length-append before body in
    let shown : length now - start ≡ length body = omega (arith, size, begins) in
    ended ∙ ap (λ (n : ℕ). now ++ row_end n) shown ∙ ap (λ (t : List ℕ). t ++ row_end (length body)) grown
    ∙ append_assoc before body (row_end (length body)) ∙ ap (λ (t : List ℕ). before ++ t) (sym (text_of_row-ended fields))

-- the body of a row, in its first field and the others
pub row_body-parts : (before first : List ℕ) (rest : Fields)
    → (before ++ field_text row_setup first) ++ fields_text row_setup rest ≡ before ++ row_body row_setup (first ∷ rest)
row_body-parts before first rest = append_assoc before (field_text row_setup first) (fields_text row_setup rest)

-- and in its first field, others and a last one
pub row_body-last : (before first : List ℕ) (rest : Fields) (last : List ℕ)
    → ((before ++ field_text row_setup first) ++ fields_text row_setup rest) ++ (44 ∷ field_text row_setup last)
    ≡ before ++ row_body row_setup (first ∷ (rest ++ last ∷ []))
row_body-last before first rest last =
    let here = before ++ field_text row_setup first in
    append_assoc here (fields_text row_setup rest) (44 ∷ field_text row_setup last)
    ∙ ap (λ (t : List ℕ). here ++ t) (sym (fields-snoc row_setup rest last)) ∙ row_body-parts before first (rest ++ last ∷ [])

-- the text of the row of a refusal
pub text_of_row-refusal : (before word : List ℕ)
    → ((before ++ codes "refused,") ++ field_text row_setup word) ++ 10 ∷ [] ≡ before ++ text_of_row (refusal_row word)
unfolding text_of_row is_blank fields_text
text_of_row-refusal before word =
    let shown = field_text row_setup word in
    append_assoc (before ++ codes "refused,") shown (10 ∷ []) ∙ append_assoc before (codes "refused,") (shown ++ 10 ∷ [])
    ∙ ap (λ (t : List ℕ). before ++ t) (rw (append-nil shown) refl)

-- what is added if a call went well
pub on_ok-added : {T E : Type 0} (r : Result T E) (old new added text : List ℕ) → new ≡ (if is_ok r then old ++ added else old) → added ≡ text
    → OnOk r (new ≡ old ++ text)
on_ok-added (Ok x) old new added text grown same = grown ∙ ap (λ (l : List ℕ). old ++ l) same
on_ok-added (Err x) old new added text grown same = tt
