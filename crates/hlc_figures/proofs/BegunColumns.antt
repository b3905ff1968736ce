-- Where one more column begins.
use Rattle.std.proofs.Common.{◌≡◌, ◌∙◌, ℕ, suc, ◌+◌, ◌*◌, ◌<◌, ◌≤◌, inl, inr, List, [], ◌∷◌, ◌++◌, arith, ap, length, length-append, subst, sym}
use Rattle.std.specs.Prelude.{slice_index_or}
use Rattle.std.proofs.lemmas.Bool.{cases_eq}
use Rattle.std.proofs.lemmas.List.{get_or_append_left}
use Rattle.std.proofs.Math.Seq.{get_or-append_seam}
use Rattle.hlc_figures.specs.Columns.{column_from, column_width}
use Rattle.hlc_figures.specs.Content.{Content}
use Rattle.hlc_figures.specs.declared.columns.TheConstants.{CHARACTER, GAP}

-- the places of a list, of which each has a number, and one more with its number
pub one_more_begins :
    (number : ℕ → ℕ) (xs : List ℕ) (column x : ℕ) → length xs ≡ column + 1 → ((k : ℕ) → k ≤ column → slice_index_or xs k 0 ≡ number k) →
    x ≡ number (column + 1) → (k : ℕ) → k ≤ column + 1 → slice_index_or (xs ++ x ∷ []) k 0 ≡ number k
one_more_begins number xs column x size each is k le =
    elim (cases_eq k (column + 1)) [
      | inl last ↦
          let at : slice_index_or (xs ++ x ∷ []) (length xs) 0 ≡ x = get_or-append_seam xs x [] 0 in
          let place : length xs ≡ k = size ∙ sym last in
          subst (λ (n : ℕ). slice_index_or (xs ++ x ∷ []) n 0 ≡ number k) place (at ∙ is ∙ ap number (sym last))
      | inr before ↦ get_or_append_left xs (x ∷ []) 0 k (omega arith) ∙ each k (omega arith)
    ]

-- there is one more of them
pub one_more : (xs : List ℕ) (x column : ℕ) → length xs ≡ column + 1 → length (xs ++ x ∷ []) ≡ (column + 1) + 1
one_more xs x column size = length-append xs (x ∷ []) ∙ ap (λ (n : ℕ). n + 1) size

-- where the next column begins, as wide as this one is
pub next_begins :
    (c : Content) (places : List ℕ) (start column x width widest : ℕ) → x ≡ column_from c places start column → width ≡ widest →
    widest ≡ column_width c places column → x + CHARACTER * (width + GAP) ≡ column_from c places start (column + 1)
next_begins c places start column x width widest at is wide =
    let next : suc column ≡ column + 1 = omega arith in
    ap (λ (x : ℕ). x + CHARACTER * (width + GAP)) at
    ∙ ap (λ (w : ℕ). column_from c places start column + CHARACTER * (w + GAP)) (is ∙ wide) ∙ ap (column_from c places start) next

-- which is not too far
pub stays_bounded :
    (x start column width widest : ℕ) → x ≤ start + column * 68719476736 → width ≡ widest → widest < 4294967296 →
    x + 8 * (width + 2) ≤ start + (column + 1) * 68719476736
stays_bounded x start column width widest bounded is wide = omega arith
