-- Labels, step by step.
use Rattle.std.proofs.Common.{◌≡◌, ◌∙◌, ℕ, zero, suc, ◌+◌, ◌-◌, ◌<◌, ◌≤◌, true, false, List, [], ◌∷◌, ◌++◌, Option, Some, None, arith, ap, codes, drop, length, length-append, length-drop, refl, subst, sym}
use Rattle.std.specs.Prelude.{nat_lt}
use Rattle.std.specs.Char.{len_utf8}
use Rattle.std.proofs.lemmas.Bool.Decides.{nat_tests}
use Rattle.std.proofs.lemmas.Grind.{common_steps}
use Rattle.hlc_svg.specs.Label.{label_after, label_text, label_width, letter_or_byte, shown_at, shown_len, shown_text, shown_width, width_after}
use Rattle.hlc_svg.specs.Letters.{letter_at}
use Rattle.hlc_svg.specs.declared.label.Shown.{Shown}
use Rattle.hlc_svg.proofs.Spelling.{letter_begins}

-- what was shown before is passed over
passed_text : (n room : ℕ) (bytes : List ℕ) → label_after n room bytes ≡ label_after 0 room (drop n bytes)
passed_text zero room [] = refl
passed_text zero room (b ∷ bytes) = refl
passed_text (suc n) room [] = refl
passed_text (suc n) room (b ∷ bytes) = passed_text n room bytes

passed_width : (n room : ℕ) (bytes : List ℕ) → width_after n room bytes ≡ width_after 0 room (drop n bytes)
passed_width zero room [] = refl
passed_width zero room (b ∷ bytes) = refl
passed_width (suc n) room [] = refl
passed_width (suc n) room (b ∷ bytes) = passed_width n room bytes

-- what is shown is made of one byte at least, and of bytes that are there
pub record IsOf (shown : Shown) (bytes : List ℕ) : Type 0 where
  pub some : 1 ≤ shown_len shown
  pub there : shown_len shown ≤ length bytes

len_some : (code : ℕ) → 1 ≤ len_utf8 code
len_some code = grind (arith, nat_tests)

byte_or_letter : (found : Option ℕ) (b : ℕ) (bytes : List ℕ) → letter_at (b ∷ bytes) ≡ found → IsOf (letter_or_byte found b) (b ∷ bytes)
byte_or_letter None b bytes is = record { some = omega arith; there = omega arith }
byte_or_letter (Some code) b bytes is =
    let begins = letter_begins (b ∷ bytes) code is in
    let long : length (begins.spelling ++ begins.rest) ≡ length (b ∷ bytes) = ap length begins.parts in
    let len = begins.spelled.len in
    let many : length (begins.spelling ++ begins.rest) ≡ length begins.spelling + length begins.rest = length-append begins.spelling begins.rest in
    let first = len_some code in
    record { some = first; there = omega arith }

pub shown_is_of : (bytes : List ℕ) → 0 < length bytes → IsOf (shown_at bytes) bytes
unfolding shown_at
shown_is_of [] some = absurd (omega arith)
shown_is_of (b ∷ bytes) some = byte_or_letter (letter_at (b ∷ bytes)) b bytes refl

-- the first byte is one of those that what is shown is made of
rest_of : (n : ℕ) (b : ℕ) (bytes : List ℕ) → 1 ≤ n → drop (n - 1) bytes ≡ drop n (b ∷ bytes)
rest_of zero b bytes some = absurd (omega arith)
rest_of (suc n) b bytes some = grind (arith, common_steps)

-- what is shown of bytes is what is shown of their beginning, if there is room for it, and then of the rest in the room that is left
pub text_goes_on : (room : ℕ) (bytes : List ℕ) → 0 < length bytes → shown_width (shown_at bytes) ≤ room →
    shown_text (shown_at bytes) ++ label_text (room - shown_width (shown_at bytes)) (drop (shown_len (shown_at bytes)) bytes) ≡ label_text room bytes
text_goes_on room [] some fits = absurd (omega arith)
text_goes_on room (b ∷ bytes) some fits =
    let shown = shown_at (b ∷ bytes) in
    let left : ℕ = room - shown_width shown in
    let test : nat_lt room (shown_width (shown_at (b ∷ bytes))) ≡ false = grind (arith, nat_tests, fits) in
    let of = shown_is_of (b ∷ bytes) some in
    let rest = rest_of (shown_len shown) b bytes of.some in
    let passed = passed_text (shown_len shown - 1) left bytes ∙ ap (label_after 0 left) rest in
    rw test (ap (λ (t : List ℕ). shown_text shown ++ t) (sym passed))

pub text_ends : (room : ℕ) (bytes : List ℕ) → 0 < length bytes → room < shown_width (shown_at bytes) → codes ".." ≡ label_text room bytes
text_ends room [] some full = absurd (omega arith)
text_ends room (b ∷ bytes) some full =
    let test : nat_lt room (shown_width (shown_at (b ∷ bytes))) ≡ true = grind (arith, nat_tests, full) in rw test refl

pub width_goes_on : (room : ℕ) (bytes : List ℕ) → 0 < length bytes → shown_width (shown_at bytes) ≤ room →
    shown_width (shown_at bytes) + label_width (room - shown_width (shown_at bytes)) (drop (shown_len (shown_at bytes)) bytes) ≡ label_width room bytes
width_goes_on room [] some fits = absurd (omega arith)
width_goes_on room (b ∷ bytes) some fits =
    let shown = shown_at (b ∷ bytes) in
    let left : ℕ = room - shown_width shown in
    let test : nat_lt room (shown_width (shown_at (b ∷ bytes))) ≡ false = grind (arith, nat_tests, fits) in
    let of = shown_is_of (b ∷ bytes) some in
    let rest = rest_of (shown_len shown) b bytes of.some in
    let passed = passed_width (shown_len shown - 1) left bytes ∙ ap (width_after 0 left) rest in
    rw test (ap (λ (n : ℕ). shown_width shown + n) (sym passed))

pub width_ends : (room : ℕ) (bytes : List ℕ) → 0 < length bytes → room < shown_width (shown_at bytes) → 2 ≡ label_width room bytes
width_ends room [] some full = absurd (omega arith)
width_ends room (b ∷ bytes) some full =
    let test : nat_lt room (shown_width (shown_at (b ∷ bytes))) ≡ true = grind (arith, nat_tests, full) in rw test refl

-- the same, of what a step found
pub rest_fits : (shown : Shown) (bytes : List ℕ) → 0 < length bytes → shown ≡ shown_at bytes → shown_len shown ≤ length bytes
rest_fits shown bytes some is = subst (λ (s : Shown). shown_len s ≤ length bytes) (sym is) (shown_is_of bytes some).there

pub rest_is_less : (shown : Shown) (bytes : List ℕ) → 0 < length bytes → shown ≡ shown_at bytes → length (drop (shown_len shown) bytes) < length bytes
rest_is_less shown bytes some is =
    let one : 1 ≤ shown_len shown = subst (λ (s : Shown). 1 ≤ shown_len s) (sym is) (shown_is_of bytes some).some in
    omega (arith, length-drop (shown_len shown) bytes)

module _ (room : ℕ) (bytes : List ℕ) (shown : Shown) (width : ℕ) (some : 0 < length bytes) (is : shown ≡ shown_at bytes) (wide : width ≡ shown_width shown)
  where
    width_is : width ≡ shown_width (shown_at bytes)
    width_is = wide ∙ ap (λ (s : Shown). shown_width s) is

    pub text_ends_with : room < width → codes ".." ≡ label_text room bytes
    text_ends_with full = text_ends room bytes some (subst (λ (n : ℕ). room < n) width_is full)

    pub width_ends_with : room < width → 2 ≡ label_width room bytes
    width_ends_with full = width_ends room bytes some (subst (λ (n : ℕ). room < n) width_is full)

    pub text_goes_on_with : (rest : List ℕ) → width ≤ room → rest ≡ drop (shown_len shown) bytes →
        shown_text shown ++ label_text (room - width) rest ≡ label_text room bytes
    text_goes_on_with rest fits left =
        rw (left, wide, is) (text_goes_on room bytes some (subst (λ (n : ℕ). n ≤ room) width_is fits))

    pub width_goes_on_with : (rest : List ℕ) → width ≤ room → rest ≡ drop (shown_len shown) bytes →
        width + label_width (room - width) rest ≡ label_width room bytes
    width_goes_on_with rest fits left =
        rw (left, wide, is) (width_goes_on room bytes some (subst (λ (n : ℕ). n ≤ room) width_is fits))
