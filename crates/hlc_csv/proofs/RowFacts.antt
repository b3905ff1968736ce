-- Fields, rows and their text.
use Rattle.std.proofs.Common.{◌≡◌, ◌∙◌, ℕ, zero, suc, List, [], ◌∷◌, ◌++◌, Option, Some, None, Bor, refl, sym, ap, append_assoc, append-nil}
use Rattle.std.specs.Prelude.{option_map, unwrap_or}
use Rattle.std.specs.Io.KnownBytes.{Appends, append_known}
use Rattle.csv.specs.Records.{field_at}
use Rattle.hlc_csv.specs.Rows.{AddsText, Fields, field_of, text_of, text_of_row}

pub field_of-at : (fs : Fields) (i : ℕ) → field_of fs i ≡ unwrap_or (field_at fs i) []
unfolding field_at
field_of-at [] i = refl
field_of-at (f ∷ fs) zero = refl
field_of-at (f ∷ fs) (suc i) = field_of-at fs i

-- the bytes of a slice, or of another
pub unwrap_or-now : (o : Option (Bor (List ℕ))) (d : Bor (List ℕ)) → (unwrap_or o d).now ≡ unwrap_or (option_map (λ s. s.now) o) d.now
unwrap_or-now None d = refl
unwrap_or-now (Some s) d = refl

-- the text of rows after others
pub text_of-append : (xs ys : List Fields) → text_of (xs ++ ys) ≡ text_of xs ++ text_of ys
text_of-append [] ys = refl
text_of-append (x ∷ xs) ys =
    ap (λ t. text_of_row x ++ t) (text_of-append xs ys) ∙ sym (append_assoc (text_of_row x) (text_of xs) (text_of ys))

-- the text of one row
pub text_of-one : (row : Fields) → text_of (row ∷ []) ≡ text_of_row row
text_of-one row = append-nil (text_of_row row)

-- more is added
pub adds_text-more : (a b c : Option (List ℕ)) (old new first next : List ℕ)
    → Appends a (append_known b old) first → AddsText b c old new next → Appends a (append_known c new) (first ++ next)
adds_text-more None b c old new first next h t = tt
adds_text-more (Some x) None c old new first next h t = absurd h
adds_text-more (Some x) (Some y) None old new first next h t = absurd t
adds_text-more (Some x) (Some y) (Some z) old new first next h t = t ∙ ap (λ (s : List ℕ). s ++ next) h ∙ append_assoc x first next

-- nothing is added, and nothing waits
pub appends-none : (a : Option (List ℕ)) → Appends a (append_known a []) []
appends-none None = tt
appends-none (Some x) = refl

-- what waits is handed out
pub appends-handed_out : (a b c : Option (List ℕ)) (waiting text : List ℕ)
    → Appends a (append_known b waiting) text → Appends b c waiting → Appends a c text
appends-handed_out None b c waiting text h t = tt
appends-handed_out (Some x) None c waiting text h t = absurd h
appends-handed_out (Some x) (Some y) None waiting text h t = absurd t
appends-handed_out (Some x) (Some y) (Some z) waiting text h t = t ∙ h

-- more is added, and then more still
pub adds_text-joined : (a b c : Option (List ℕ)) (old mid new first next : List ℕ)
    → AddsText a b old mid first → AddsText b c mid new next → AddsText a c old new (first ++ next)
adds_text-joined a b c old mid new first next h t = adds_text-more (append_known a old) b c mid new first next h t
