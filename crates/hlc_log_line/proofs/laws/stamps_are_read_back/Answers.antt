use Rattle.std.proofs.Common.{◌≡◌, ◌∙◌, ℕ, ◌+◌, ◌^◌, ◌<◌, ◌≤◌, ◌==◌, Bool, true, false, List, [], ◌∷◌, ◌++◌, Some, Option, decimal, length, inl, inr, lit<, take, drop, refl, sym, ap, length-append, arith}
use Rattle.std.specs.Prelude.{not, nat_le, nat_lt, position, if◌then◌else◌}
use Rattle.std.specs.List.{position_or_len, prefix_len}
use Rattle.std.specs.Char.{is_ascii_digit}
use Rattle.std.specs.Str.{all_ascii_digits}
use Rattle.std.proofs.lemmas.Bool.{cases_Bool, ne_eqb}
use Rattle.std.proofs.lemmas.Bool.Decides.{nat_tests}
use Rattle.std.proofs.Math.Seq.{drop-append-add, take-append_seam}
use Rattle.hlc_stamp.specs.Order.{Pair}
use Rattle.hlc_csv.proofs.DecimalFacts.{all_digits-decimal, number_of-decimal}
use Rattle.hlc_log_line.specs.StampText.{count_of, dotted_stamp, dotted_text, if_count, pair_stamp, stamp_around}
use Rattle.hlc_log_line.proofs.laws.stamps_are_read_back.Goals as goal

-- a digit is no dot
no_dot : (d : ℕ) → is_ascii_digit d ≡ true → (d == 46) ≡ false
no_dot d digit = let low : 48 ≤ d = grind (arith, nat_tests, digit) in ne_eqb d 46 (λ e. absurd (omega arith))

-- the first dot stands after the digits
dot-after : (ds cs : List ℕ) → all_ascii_digits ds ≡ true → prefix_len (λ byte. not (byte == 46)) (ds ++ 46 ∷ cs) ≡ length ds
dot-after [] cs all = refl
dot-after (d ∷ ds) cs all =
    elim (cases_Bool (is_ascii_digit d)) [
      | inl digit ↦ rw (no_dot d digit) (ap (λ (n : ℕ). 1 + n) (dot-after ds cs (rw digit at all)) ∙ omega arith)
      | inr other ↦ absurd (let no : ◌≡◌ {A = Bool} false true = rw other at all in cc no)
    ]

position-dot : (ds cs : List ℕ) → all_ascii_digits ds ≡ true → position (λ byte. byte == 46) (ds ++ 46 ∷ cs) ≡ Some (length ds)
position-dot ds cs all =
    let within : nat_lt (length ds) (length (ds ++ 46 ∷ cs)) ≡ true = grind (arith, nat_tests, length-append ds (46 ∷ cs)) in
    rw (dot-after ds cs all) (rw within refl)

count_of-decimal : (n : ℕ) → n < 2 ^ 32 → count_of (decimal n) ≡ Some n
count_of-decimal n small =
    let fits : nat_le n 4294967295 ≡ true = grind (arith, nat_tests, small) in
    ap if_count (number_of-decimal n (omega (arith, small))) ∙ rw fits refl

pub returns-clause-stamps : goal.returns-clause-stamps
returns-clause-stamps c p l_fits c_fits =
    let ds = decimal p.l in
    let cs = decimal p.c in
    let field = ds ++ 46 ∷ cs in
    let here = position-dot ds cs (all_digits-decimal p.l l_fits) in
    let before : take (length ds) field ≡ ds = take-append_seam ds (46 ∷ cs) in
    let after : drop (length ds + 1) field ≡ cs = drop-append-add ds (46 ∷ cs) 1 in
    ap (λ (dot : Option ℕ). stamp_around dot field) here
    ∙ ap (λ (l : List ℕ). pair_stamp l (drop (length ds + 1) field)) before
    ∙ ap (pair_stamp ds) after
    ∙ rw (number_of-decimal p.l l_fits, count_of-decimal p.c c_fits) refl

pub returns-clause-numbers : goal.returns-clause-numbers
returns-clause-numbers c = number_of-decimal
