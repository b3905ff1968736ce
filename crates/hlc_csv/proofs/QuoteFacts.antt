-- The bytes of a field between quotes.
use Rattle.std.proofs.Common.{◌≡◌, ◌∙◌, ◌≤◌, ◌<◌, ◌+◌, ◌==◌, ◌++◌, ◌∷◌, [], ℕ, zero, suc, Bool, true, false, List, length, take, drop, get_or, take-append-drop, refl, sym, ap, append_assoc, arith}
use Rattle.std.specs.List.{list_any}
use Rattle.std.proofs.lemmas.Bool.{eqb-true, false_from_ne_true}
use Rattle.std.proofs.lemmas.List.{drop_more}
use Rattle.csv.specs.Writing.{escaped}
use Rattle.csv.proofs.WriteFacts.{escaped-append, escaped-none}
use Rattle.hlc_csv.specs.Rows.{row_setup}

-- no byte before a place passes a test
pub none-before : (test : ℕ → Bool) (l : List ℕ) (n : ℕ)
    → ((k : ℕ) → 0 ≤ k → k < n → ¬ (test (get_or l k 0) ≡ true)) → list_any test (take n l) ≡ false
none-before test l zero h = refl
none-before test [] (suc n) h = refl
none-before test (x ∷ xs) (suc n) h =
    let first = false_from_ne_true (test x) (h 0 (omega arith) (omega arith)) in
    rw first (none-before test xs n (λ k a b. h (suc k) (omega arith) (omega arith)))

-- a text, around a quote in it
pub around-quote : (l : List ℕ) (at : ℕ) → at < length l → (get_or l at 0 == 34) ≡ true → l ≡ (take at l ++ 34 ∷ []) ++ drop (at + 1) l
around-quote l at within is =
    let first = take at l in
    let rest = drop (at + 1) l in
    sym (take-append-drop at l) ∙ ap (λ (t : List ℕ). first ++ t) (drop_more l at 0 within ∙ ap (λ (b : ℕ). b ∷ rest) (eqb-true _ _ is))
    ∙ sym (append_assoc first (34 ∷ []) rest)

-- a run without quotes, and then a quote
pub escaped-past : (done run : List ℕ) → list_any (λ b. b == 34) run ≡ false
    → escaped row_setup (done ++ (run ++ 34 ∷ [])) ≡ escaped row_setup done ++ (run ++ 34 ∷ 34 ∷ [])
unfolding escaped
escaped-past done run none =
    rw (escaped-append row_setup done (run ++ 34 ∷ []), escaped-append row_setup run (34 ∷ []), escaped-none row_setup run none) refl
