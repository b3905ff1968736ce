-- Rows that are added for one item after another, and written.
use Rattle.std.proofs.Common.{◌≡◌, ◌∙◌, ℕ, ◌+◌, ◌<◌, List, [], ◌++◌, Option, Some, None, add-one, append-nil, append_assoc, ap, get_or, length, subst, sym, take, ◌∷◌}
use Rattle.std.specs.List.{flat_map}
use Rattle.std.proofs.Math.Seq.{take-suc}
use Rattle.std.specs.Io.KnownBytes.{Appends}
use Rattle.hlc_csv.specs.Rows.{AddsText, Fields, text_of}
use Rattle.hlc_csv.proofs.RowFacts.{text_of-append}
use Rattle.hlc_log_text.proofs.RowsAdded.{adds_rows}

-- the rows of one item more
pub adds_more : {X : Type 0} (a b c : Option (List ℕ)) (old mid new : List ℕ) (rows : X → List Fields) (xs : List X) (n : ℕ) (x : X) → n < length xs
    → AddsText a b old mid (text_of (flat_map rows (take n xs))) → AddsText b c mid new (text_of (rows (get_or xs n x)))
    → AddsText a c old new (text_of (flat_map rows (take (n + 1) xs)))
adds_more a b c old mid new rows xs n x within before here =
    let more : take (n + 1) xs ≡ take n xs ++ get_or xs n x ∷ [] = ap (λ (k : ℕ). take k xs) (add-one n) ∙ take-suc xs n x within in
    subst (λ (ys : List _). AddsText a c old new (text_of (flat_map rows ys))) (sym more)
    (adds_rows a b c old mid new rows (take n xs) (get_or xs n x) before here)

-- nothing is written
pub appends_none : (a : Option (List ℕ)) → Appends a a []
appends_none None = tt
appends_none (Some x) = sym (append-nil x)

-- rows are written, and then more
pub appends_joined : (a b c : Option (List ℕ)) (first next : List Fields) → Appends a b (text_of first) → Appends b c (text_of next)
    → Appends a c (text_of (first ++ next))
appends_joined None b c first next h t = tt
appends_joined (Some x) None c first next h t = absurd h
appends_joined (Some x) (Some y) None first next h t = absurd t
appends_joined (Some x) (Some y) (Some z) first next h t =
    t ∙ ap (λ (s : List ℕ). s ++ text_of next) h ∙ append_assoc x (text_of first) (text_of next) ∙ ap (λ (s : List ℕ). x ++ s) (sym (text_of-append first next))
