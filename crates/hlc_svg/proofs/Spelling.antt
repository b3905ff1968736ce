-- Letters and their UTF-8.
use Rattle.std.proofs.Common.{◌≡◌, ◌∙◌, ℕ, ◌+◌, ◌-◌, ◌*◌, ◌/◌, ◌%◌, ◌<◌, ◌≤◌, ◌&&◌, true, false, inl, inr, List, [], ◌∷◌, ◌++◌, Option, Some, None, arith, ap, length, refl, subst, sym}
use Rattle.std.specs.Prelude.{Bool, if◌then◌else◌, nat_le, nat_lt}
use Rattle.std.specs.Char.{encode_utf8, len_utf8}
use Rattle.std.proofs.lemmas.Bool.{and_parts, cases_Bool}
use Rattle.std.proofs.lemmas.Bool.Decides.{nat_tests}
use Rattle.hlc_svg.specs.Letters.{continues, is_among, is_letter, letter_at, letter_of, long_letter, three_letter, two_letter}
use Rattle.hlc_svg.specs.declared.letters.TheConstants.{LETTERS, SURROGATES}

-- each letter comes before the surrogates
pub letter_is_scalar : (code : ℕ) → is_letter code ≡ true → code < 55296
unfolding is_letter
letter_is_scalar code is =
    let test = (and_parts (nat_lt code SURROGATES) (is_among LETTERS code) is).0 in
    grind (arith, nat_tests, test)

-- a letter that isn't of ASCII is spelled by these bytes
pub record IsSpelled (code : ℕ) (bytes : List ℕ) : Type 0 where
  pub letter : is_letter code ≡ true
  pub other : 128 ≤ code
  pub text : encode_utf8 code ≡ bytes
  pub len : len_utf8 code ≡ length bytes

letter_is : (n code : ℕ) → letter_of n ≡ Some code → (is_letter n ≡ true) × (n ≡ code)
letter_is n code is =
    elim (cases_Bool (is_letter n)) [
      | inl passed ↦ let same : Some n ≡ Some code = rw passed at is in (passed, cc)
      | inr failed ↦ let none : None ≡ Some code = rw failed at is in absurd (cc)
    ]

two_spelled : (a b : ℕ) → 194 ≤ a → a < 224 → 128 ≤ b → b < 192 → encode_utf8 ((a - 192) * 64 + (b - 128)) ≡ a ∷ b ∷ []
unfolding encode_utf8
two_spelled a b from to more less =
    let n : ℕ = (a - 192) * 64 + (b - 128) in
    let long : nat_lt n 128 ≡ false = grind (arith, nat_tests) in
    let short : nat_lt n 2048 ≡ true = grind (arith, nat_tests) in
    let high : 192 + n / 64 ≡ a = omega arith in
    let low : 128 + n % 64 ≡ b = omega arith in
    rw (long, short, high, low) refl

three_spelled : (a b c : ℕ) → 224 ≤ a → a < 240 → 128 ≤ b → b < 192 → 128 ≤ c → c < 192 → 2048 ≤ (a - 224) * 4096 + (b - 128) * 64 + (c - 128) →
    encode_utf8 ((a - 224) * 4096 + (b - 128) * 64 + (c - 128)) ≡ a ∷ b ∷ c ∷ []
unfolding encode_utf8
three_spelled a b c from to more less on end long =
    let n : ℕ = (a - 224) * 4096 + (b - 128) * 64 + (c - 128) in
    let one : nat_lt n 128 ≡ false = grind (arith, nat_tests) in
    let two : nat_lt n 2048 ≡ false = grind (arith, nat_tests) in
    let three : nat_lt n 65536 ≡ true = grind (arith, nat_tests) in
    let high : 224 + n / 4096 ≡ a = omega arith in
    let part : n / 64 ≡ (a - 224) * 64 + (b - 128) = omega arith in
    let middle : 128 + (n / 64) % 64 ≡ b = omega arith in
    let low : 128 + n % 64 ≡ c = omega arith in
    rw (one, two, three, high, middle, low) refl

-- whether a byte goes on with a character, in numbers
goes_on : (b : ℕ) → continues b ≡ true → (128 ≤ b) × (b < 192)
goes_on b is =
    let parts = and_parts (nat_le 128 b) (nat_lt b 192) is in (grind (arith, nat_tests, parts.0), grind (arith, nat_tests, parts.1))

pub two_is_spelled : (a b code : ℕ) → two_letter a b ≡ Some code → IsSpelled code (a ∷ b ∷ [])
two_is_spelled a b code is =
    elim (cases_Bool ((nat_le 194 a && nat_lt a 224) && continues b)) [
      | inl passed ↦
          let found : letter_of ((a - 192) * 64 + (b - 128)) ≡ Some code = rw passed at is in
          let letter = letter_is ((a - 192) * 64 + (b - 128)) code found in
          let parts = and_parts (nat_le 194 a && nat_lt a 224) (continues b) passed in
          let leads = and_parts (nat_le 194 a) (nat_lt a 224) parts.0 in
          let from : 194 ≤ a = grind (arith, nat_tests, leads.0) in
          let to : a < 224 = grind (arith, nat_tests, leads.1) in
          let on = goes_on b parts.1 in
          let more : 128 ≤ b = on.0 in
          let less : b < 192 = on.1 in
          let same : (a - 192) * 64 + (b - 128) ≡ code = letter.1 in
          let long : nat_lt code 128 ≡ false = grind (arith, nat_tests) in
          let short : nat_lt code 2048 ≡ true = grind (arith, nat_tests) in
          record {
            letter = subst (λ (n : ℕ). is_letter n ≡ true) same letter.0;
            other = omega arith;
            text = subst (λ (n : ℕ). encode_utf8 n ≡ a ∷ b ∷ []) same (two_spelled a b from to more less);
            len = rw (long, short) refl;
          }
      | inr failed ↦ let none : None ≡ Some code = rw failed at is in absurd (cc)
    ]

long_is : (n code : ℕ) → long_letter n ≡ Some code → (is_letter n ≡ true) × (n ≡ code) × (2048 ≤ n)
long_is n code is =
    elim (cases_Bool (nat_le 2048 n)) [
      | inl passed ↦
          let found : letter_of n ≡ Some code = rw passed at is in
          let letter = letter_is n code found in
          (letter.0, letter.1, grind (arith, nat_tests, passed))
      | inr failed ↦ let none : None ≡ Some code = rw failed at is in absurd (cc)
    ]

pub three_is_spelled : (a b c code : ℕ) → three_letter a b c ≡ Some code → IsSpelled code (a ∷ b ∷ c ∷ [])
three_is_spelled a b c code is =
    elim (cases_Bool (((nat_le 224 a && nat_lt a 240) && continues b) && continues c)) [
      | inl passed ↦
          let n : ℕ = (a - 224) * 4096 + (b - 128) * 64 + (c - 128) in
          let found : long_letter ((a - 224) * 4096 + (b - 128) * 64 + (c - 128)) ≡ Some code = rw passed at is in
          let letter = long_is ((a - 224) * 4096 + (b - 128) * 64 + (c - 128)) code found in
          let parts = and_parts ((nat_le 224 a && nat_lt a 240) && continues b) (continues c) passed in
          let before = and_parts (nat_le 224 a && nat_lt a 240) (continues b) parts.0 in
          let leads = and_parts (nat_le 224 a) (nat_lt a 240) before.0 in
          let from : 224 ≤ a = grind (arith, nat_tests, leads.0) in
          let to : a < 240 = grind (arith, nat_tests, leads.1) in
          let second = goes_on b before.1 in
          let third = goes_on c parts.1 in
          let more : 128 ≤ b = second.0 in
          let less : b < 192 = second.1 in
          let on : 128 ≤ c = third.0 in
          let end : c < 192 = third.1 in
          let same : n ≡ code = letter.1 in
          let long : 2048 ≤ n = letter.2 in
          let one : nat_lt code 128 ≡ false = grind (arith, nat_tests) in
          let two : nat_lt code 2048 ≡ false = grind (arith, nat_tests) in
          let few : nat_lt code 65536 ≡ true = grind (arith, nat_tests) in
          record {
            letter = subst (λ (m : ℕ). is_letter m ≡ true) same letter.0;
            other = omega arith;
            text = subst (λ (m : ℕ). encode_utf8 m ≡ a ∷ b ∷ c ∷ []) same (three_spelled a b c from to more less on end long);
            len = rw (one, two, few) refl;
          }
      | inr failed ↦ let none : None ≡ Some code = rw failed at is in absurd (cc)
    ]

-- bytes that begin with a letter begin with its spelling
pub record BeginsWith (code : ℕ) (bytes : List ℕ) : Type 0 where
  pub spelling : List ℕ
  pub rest : List ℕ
  pub spelled : IsSpelled code spelling
  pub parts : spelling ++ rest ≡ bytes

two_found : (a b code : ℕ) (other : Option ℕ) → nat_lt a 224 ≡ true → (if nat_lt a 224 then two_letter a b else other) ≡ Some code →
    two_letter a b ≡ Some code
two_found a b code other test is = sym (ap (λ (t : Bool). if t then two_letter a b else other) test) ∙ is

other_found : (a b code : ℕ) (other : Option ℕ) → nat_lt a 224 ≡ false → (if nat_lt a 224 then two_letter a b else other) ≡ Some code →
    other ≡ Some code
other_found a b code other test is = sym (ap (λ (t : Bool). if t then two_letter a b else other) test) ∙ is

pub letter_begins : (bytes : List ℕ) (code : ℕ) → letter_at bytes ≡ Some code → BeginsWith code bytes
letter_begins [] code is = let none : None ≡ Some code = is in absurd (cc)
letter_begins (a ∷ []) code is = let none : None ≡ Some code = is in absurd (cc)
letter_begins (a ∷ b ∷ []) code is =
    elim (cases_Bool (nat_lt a 224)) [
      | inl short ↦
          let found = two_found a b code None short is in
          record { spelling = a ∷ b ∷ []; rest = []; spelled = two_is_spelled a b code found; parts = refl }
      | inr long ↦ let none : None ≡ Some code = other_found a b code None long is in absurd (cc)
    ]
letter_begins (a ∷ b ∷ c ∷ rest) code is =
    elim (cases_Bool (nat_lt a 224)) [
      | inl short ↦
          let found = two_found a b code (three_letter a b c) short is in
          record { spelling = a ∷ b ∷ []; rest = c ∷ rest; spelled = two_is_spelled a b code found; parts = refl }
      | inr long ↦
          let found = other_found a b code (three_letter a b c) long is in
          record { spelling = a ∷ b ∷ c ∷ []; rest = rest; spelled = three_is_spelled a b c code found; parts = refl }
    ]
