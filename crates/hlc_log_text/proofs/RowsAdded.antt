-- Rows that are added one after another.
use Rattle.std.proofs.Common.{◌≡◌, ◌∙◌, ℕ, ◌+◌, List, [], ◌∷◌, ◌++◌, Option, Some, None, add-one, append-nil, ap, map, subst, sym}
use Rattle.std.specs.List.{flat_map}
use Rattle.std.proofs.lemmas.List.{map-append}
use Rattle.std.proofs.lemmas.List.Concat.{flat_map-append}
use Rattle.std.specs.Io.KnownBytes.{Appends}
use Rattle.hlc_causality.specs.Places.{places_below}
use Rattle.hlc_csv.specs.Rows.{AddsText, Fields, text_of, text_of_row}
use Rattle.hlc_csv.proofs.RowFacts.{adds_text-joined, text_of-append, text_of-one}

-- no row is added
pub adds_none : (a : Option (List ℕ)) (old : List ℕ) → AddsText a a old old []
adds_none None old = tt
adds_none (Some x) old = sym (append-nil (x ++ old))

-- one row is added
pub adds_one : (a b : Option (List ℕ)) (old new : List ℕ) (row : Fields) → AddsText a b old new (text_of_row row)
    → AddsText a b old new (text_of (row ∷ []))
adds_one a b old new row adds = subst (AddsText a b old new) (sym (text_of-one row)) adds

-- rows are added, and then more
pub adds_joined : (a b c : Option (List ℕ)) (old mid new : List ℕ) (first next : List Fields)
    → AddsText a b old mid (text_of first) → AddsText b c mid new (text_of next) → AddsText a c old new (text_of (first ++ next))
adds_joined a b c old mid new first next h t =
    subst (AddsText a c old new) (sym (text_of-append first next)) (adds_text-joined a b c old mid new (text_of first) (text_of next) h t)

-- the rows of one thing more
pub adds_rows : {A : Type 0} (a b c : Option (List ℕ)) (old mid new : List ℕ) (rows : A → List Fields) (before : List A) (x : A)
    → AddsText a b old mid (text_of (flat_map rows before)) → AddsText b c mid new (text_of (rows x))
    → AddsText a c old new (text_of (flat_map rows (before ++ x ∷ [])))
adds_rows a b c old mid new rows before x h t =
    let more : flat_map rows (before ++ x ∷ []) ≡ flat_map rows before ++ rows x =
    flat_map-append rows before (x ∷ []) ∙ ap (λ (last : List Fields). flat_map rows before ++ last) (append-nil (rows x)) in
    subst (λ (all : List Fields). AddsText a c old new (text_of all)) (sym more) (adds_joined a b c old mid new (flat_map rows before) (rows x) h t)

-- the row of one thing more
pub adds_row : {A : Type 0} (a b c : Option (List ℕ)) (old mid new : List ℕ) (row : A → Fields) (before : List A) (x : A)
    → AddsText a b old mid (text_of (map row before)) → AddsText b c mid new (text_of_row (row x))
    → AddsText a c old new (text_of (map row (before ++ x ∷ [])))
adds_row a b c old mid new row before x h t =
    subst (λ (all : List Fields). AddsText a c old new (text_of all)) (sym (map-append row before (x ∷ [])))
    (adds_joined a b c old mid new (map row before) (row x ∷ []) h (adds_one b c mid new (row x) t))

-- the row of one place more
pub adds_row_of_place : (a b c : Option (List ℕ)) (old mid new : List ℕ) (row : ℕ → Fields) (n : ℕ)
    → AddsText a b old mid (text_of (map row (places_below n))) → AddsText b c mid new (text_of_row (row n))
    → AddsText a c old new (text_of (map row (places_below (n + 1))))
adds_row_of_place a b c old mid new row n h t =
    subst (λ (k : ℕ). AddsText a c old new (text_of (map row (places_below k)))) (sym (add-one n)) (adds_row a b c old mid new row (places_below n) n h t)

-- rows that were added to a buffer without rows are handed out
pub appends-from_none : (a b c : Option (List ℕ)) (waiting text : List ℕ) → AddsText a b [] waiting text → Appends b c waiting → Appends a c text
appends-from_none None b c waiting text h t = tt
appends-from_none (Some x) None c waiting text h t = absurd h
appends-from_none (Some x) (Some y) None waiting text h t = absurd t
appends-from_none (Some x) (Some y) (Some z) waiting text h t = t ∙ h ∙ ap (λ (before : List ℕ). before ++ text) (append-nil x)
