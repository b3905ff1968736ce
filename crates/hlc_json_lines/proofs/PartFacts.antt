-- Texts in parts, and places of bytes.
use Rattle.std.proofs.Common.{◌≡◌, ◌∙◌, ◌<◌, ◌+◌, ◌==◌, ◌||◌, ◌++◌, ◌∷◌, ℕ, Bool, true, false, List, [], Option, Some, None, length, take, drop, get_or, take-append-drop, refl, sym, ap, arith, subst}
use Rattle.std.specs.Prelude.{MatchOption}
use Rattle.std.specs.List.{after_first, before_first, position_or_len, slice_split}
use Rattle.std.proofs.lemmas.Bool.{false_from_ne_true}
use Rattle.std.proofs.lemmas.List.{drop_more}
use Rattle.std.proofs.lemmas.List.Splits.{slice_split_first, slice_split_none}
use Rattle.std.proofs.lemmas.List.Sums.{fails_before_first, position_or_len_is}
use Rattle.std.proofs.lemmas.Str.Pattern.{IsSplitOnceResult, split_once_first}
use Rattle.std.specs.Str.{IsCharBoundary, IsUtf8}
use Rattle.std.proofs.lemmas.Str.{IsUtf8-drop}
use Rattle.memchr.specs.Find.{IsFirstByte}
use denote.Ref.{Bor}

-- where no byte passes, a text is its one part
one-part : (p : ℕ → Bool) (text : List ℕ) → position_or_len p text ≡ length text → slice_split p text ≡ text ∷ []
one-part p text none = slice_split_none p text (λ k d within. fails_before_first p text k d (omega (arith, none, within)))

-- the first part of a text and the others, as `split_once` finds them
pub split-once : (mark : ℕ) (text : List ℕ) (r : Option (Bor (List ℕ) × Bor (List ℕ))) → IsSplitOnceResult mark text r → mark < 128
    → MatchOption r (slice_split (λ b. b == mark) text ≡ text ∷ [])
    (λ parts. slice_split (λ b. b == mark) text ≡ parts.0.now ∷ slice_split (λ b. b == mark) parts.1.now)
split-once mark text r is ascii = by r (split_once_first mark text r is ascii) where
  by : (r : Option (Bor (List ℕ) × Bor (List ℕ)))
      → MatchOption r (position_or_len (λ b. b == mark) text ≡ length text)
      (λ x. (position_or_len (λ b. b == mark) text < length text) × (x.0.now ≡ before_first (λ b. b == mark) text) × (x.1.now ≡ after_first (λ b. b == mark) text))
      → MatchOption r (slice_split (λ b. b == mark) text ≡ text ∷ [])
      (λ parts. slice_split (λ b. b == mark) text ≡ parts.0.now ∷ slice_split (λ b. b == mark) parts.1.now)
  by None none = one-part (λ b. b == mark) text none
  by (Some x) found = rw (found.1, found.2) (slice_split_first (λ b. b == mark) text 0 found.0)

-- what follows the first mark of a text is a text
pub text-after : (mark : ℕ) (text : List ℕ) (parts : Bor (List ℕ) × Bor (List ℕ)) → IsSplitOnceResult mark text (Some parts) → IsUtf8 text → IsUtf8 parts.1.now
text-after mark text parts is utf8 =
    let found = is.2.1 in
    let boundary = subst (λ (n : ℕ). IsCharBoundary text n) (sym found.ends) found.after in
    subst IsUtf8 (sym is.4) (IsUtf8-drop text is.1 utf8 boundary)

-- the place at which `memchr` finds a byte is the first at which one passes
pub first-place : (p : ℕ → Bool) (text : List ℕ) (at : ℕ) → IsFirstByte p text (Some at) → position_or_len p text ≡ at
first-place p text at found =
    let high = found.0.high in
    position_or_len_is p text at 0 (omega (arith, high))
    (λ k below. false_from_ne_true (p (get_or text k 0)) (found.0.before k (omega arith) below)) (λ _. found.1)

-- where it finds none, no byte passes
pub no-place : (p : ℕ → Bool) (text : List ℕ) → IsFirstByte p text None → position_or_len p text ≡ length text
no-place p text none =
    position_or_len_is p text (length text) 0 (omega arith)
    (λ k below. false_from_ne_true (p (get_or text k 0)) (none k (omega arith) below)) (λ h. absurd (omega (arith, h)))

-- a text, around the byte at a place
pub around : (text : List ℕ) (at : ℕ) → at < length text → text ≡ take at text ++ get_or text at 0 ∷ drop (at + 1) text
around text at within = sym (take-append-drop at text) ∙ ap (λ (t : List ℕ). take at text ++ t) (drop_more text at 0 within)

-- whether one of two holds, of which the second doesn't
pub or-false : (b : Bool) → (b || false) ≡ b
or-false true = refl
or-false false = refl
