-- The words of a generator, and the pairs in which they are drawn.
use Rattle.std.proofs.Common.{◌≡◌, ◌∙◌, ℕ, zero, suc, ◌+◌, ◌*◌, ◌/◌, ◌%◌, List, [], ◌∷◌, arith, ap, sym, suc-add, zero-add}
use Rattle.std.proofs.lemmas.Fmt.{decimal_digit}
use Rattle.rand_pcg.proofs.LcgLemmas.{advance_zero}
use Rattle.rand_pcg.specs.Lcg.{Lcg, advance, next, state_after}
use Rattle.rand_pcg.specs.Pcg.{multiplier_64, pcg32}
use Rattle.hlc_seeded.specs.declared.draw.Draw.{Draw}
use Rattle.hlc_seeded.specs.Storm.{draw_of, key_for, word_at}

-- a generator so many words on
abbrev pub on : ℕ → Lcg → Lcg
on n g = advance 64 multiplier_64 n g

-- no words on
pub on-none : (n : ℕ) (g : Lcg) → n ≡ 0 → g ≡ on n g
on-none n g none = sym (ap (λ (k : ℕ). on k g) none ∙ advance_zero 64 multiplier_64 g)

-- first so many words on, and then more
pub on-on : (m n : ℕ) (g : Lcg) → on n (on m g) ≡ on (m + n) g
unfolding state_after
on-on zero n g = ap (λ (k : ℕ). on k g) (sym (zero-add n))
on-on (suc m) n g = on-on m n (next 64 multiplier_64 g) ∙ ap (λ (k : ℕ). on k g) (sym (suc-add m n))

-- the words that a generator gives from some word on
pub word_at-on : (m i : ℕ) (g : Lcg) → word_at (on m g) i ≡ word_at g (m + i)
word_at-on m i g = ap (λ (h : Lcg). (pcg32 h).0) (on-on m i g)

draw_same : (a b a' b' : ℕ) → a ≡ a' → b ≡ b' → let x : Draw = record { a = a; b = b } in let y : Draw = record { a = a'; b = b' } in x ≡ y
draw_same a b a' b' same_a same_b =
    ap (λ (n : ℕ). let x : Draw = record { a = n; b = b } in x) same_a ∙ ap (λ (n : ℕ). let x : Draw = record { a = a'; b = n } in x) same_b

-- the draws that a generator gives from some draw on
pub draw_of-on : (k i : ℕ) (g : Lcg) → draw_of (word_at (on (2 * k) g)) i ≡ draw_of (word_at g) (k + i)
draw_of-on k i g =
    let first : 2 * k + 2 * i ≡ 2 * (k + i) = omega arith in
    let second : 2 * k + (2 * i + 1) ≡ 2 * (k + i) + 1 = omega arith in
    draw_same _ _ _ _ (word_at-on (2 * k) (2 * i) g ∙ ap (word_at g) first) (word_at-on (2 * k) (2 * i + 1) g ∙ ap (word_at g) second)

-- the next two words, as a generator gives them in turn
pub drawn : (a b : ℕ) (g h k : Lcg) → (a, h) ≡ pcg32 g → (b, k) ≡ pcg32 h →
    let d : Draw = record { a = a; b = b } in (d ≡ draw_of (word_at g) 0) × (k ≡ on 2 g)
unfolding state_after
drawn a b g h k first second =
    let once : h ≡ next 64 multiplier_64 g = ap (λ (p : ℕ × Lcg). p.1) first in
    let twice : k ≡ next 64 multiplier_64 h = ap (λ (p : ℕ × Lcg). p.1) second in
    let word : b ≡ (pcg32 (next 64 multiplier_64 g)).0 = ap (λ (p : ℕ × Lcg). p.0) second ∙ ap (λ (x : Lcg). (pcg32 x).0) once in
    (draw_same _ _ _ _ (ap (λ (p : ℕ × Lcg). p.0) first) word, twice ∙ ap (next 64 multiplier_64) once)

pub key_is : (a : ℕ) → 107 ∷ (48 + a / 64 % 4) ∷ [] ≡ key_for a
key_is a = ap (λ (ds : List ℕ). 107 ∷ ds) (sym (decimal_digit (a / 64 % 4) (omega arith)))
