-- Digits that are cut off a number.
use Rattle.std.proofs.Common.{◌≡◌, ◌∙◌, ℕ, List, ap, arith, drop, length, min, take}
use Rattle.std.specs.Str.{IsAscii, IsCharBoundary}
use Rattle.std.proofs.lemmas.List.{drop_min, take_min}
use Rattle.std.proofs.lemmas.Str.{IsCharBoundary-from_ascii}

-- a text of ASCII can be cut anywhere
pub cut_at_a_digit : (digits : List ℕ) (count at : ℕ) → IsAscii digits → at ≡ min count (length digits) → IsCharBoundary digits at
cut_at_a_digit digits count at ascii is = IsCharBoundary-from_ascii digits at ascii (omega arith)

pub first_of_all : (digits part : List ℕ) (count at : ℕ) → part ≡ take at digits → at ≡ min count (length digits) → part ≡ take count digits
first_of_all digits part count at cut is = cut ∙ ap (λ (n : ℕ). take n digits) is ∙ take_min count digits

pub rest_of_all : (digits part : List ℕ) (count at : ℕ) → part ≡ drop at digits → at ≡ min count (length digits) → part ≡ drop count digits
rest_of_all digits part count at cut is = cut ∙ ap (λ (n : ℕ). drop n digits) is ∙ drop_min count digits
