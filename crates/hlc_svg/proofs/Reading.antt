-- Letters are read as they are.
use Rattle.std.proofs.Common.{◌≡◌, ◌∙◌, ℕ, ◌+◌, ◌-◌, ◌*◌, ◌/◌, ◌%◌, ◌<◌, ◌≤◌, true, false, inl, inr, List, [], ◌∷◌, ◌++◌, Option, Some, None, arith, ap, drop, length, refl, subst, sym}
use Rattle.std.specs.Prelude.{nat_le, nat_lt}
use Rattle.std.specs.Char.{encode_utf8, len_utf8}
use Rattle.std.proofs.lemmas.Bool.{cases_lt}
use Rattle.std.proofs.lemmas.Bool.Decides.{nat_tests}
use Rattle.std.proofs.lemmas.Grind.{common_steps}
use Rattle.hlc_svg.specs.Label.{label_text, letter_or_byte, letter_width, shown_at, shown_len, shown_text, shown_width}
use Rattle.hlc_svg.specs.LabelLaws.{LettersAreRead}
use Rattle.hlc_svg.specs.Letters.{is_letter, letter_at}
use Rattle.hlc_svg.specs.declared.label.Shown.{Shown}
use Rattle.hlc_svg.specs.declared.label.Shown.TheVariants.{Letter}
use Rattle.hlc_svg.proofs.Labels.{text_goes_on}
use Rattle.hlc_svg.proofs.Spelling.{letter_is_scalar}

-- a letter is found if bytes begin with two that spell it, or with three
two_found : (code : ℕ) (bytes : List ℕ) → is_letter code ≡ true → 128 ≤ code → code < 2048 →
    letter_at ((192 + code / 64) ∷ (128 + code % 64) ∷ bytes) ≡ Some code
two_found code bytes letter from to =
    let short : nat_lt (192 + code / 64) 224 ≡ true = grind (arith, nat_tests) in
    let leads : nat_le 194 (192 + code / 64) ≡ true = grind (arith, nat_tests) in
    let on : nat_le 128 (128 + code % 64) ≡ true = grind (arith, nat_tests) in
    let end : nat_lt (128 + code % 64) 192 ≡ true = grind (arith, nat_tests) in
    let same : (192 + code / 64 - 192) * 64 + (128 + code % 64 - 128) ≡ code = omega arith in
    rw (short, leads, on, end, same, letter) refl

three_found : (code : ℕ) (bytes : List ℕ) → is_letter code ≡ true → 2048 ≤ code → code < 55296 →
    letter_at ((224 + code / 4096) ∷ (128 + (code / 64) % 64) ∷ (128 + code % 64) ∷ bytes) ≡ Some code
three_found code bytes letter from to =
    let long : nat_lt (224 + code / 4096) 224 ≡ false = grind (arith, nat_tests) in
    let leads : nat_le 224 (224 + code / 4096) ≡ true = grind (arith, nat_tests) in
    let few : nat_lt (224 + code / 4096) 240 ≡ true = grind (arith, nat_tests) in
    let on : nat_le 128 (128 + (code / 64) % 64) ≡ true = grind (arith, nat_tests) in
    let end : nat_lt (128 + (code / 64) % 64) 192 ≡ true = grind (arith, nat_tests) in
    let on_too : nat_le 128 (128 + code % 64) ≡ true = grind (arith, nat_tests) in
    let end_too : nat_lt (128 + code % 64) 192 ≡ true = grind (arith, nat_tests) in
    let same : (224 + code / 4096 - 224) * 4096 + (128 + (code / 64) % 64 - 128) * 64 + (128 + code % 64 - 128) ≡ code = omega arith in
    let least : nat_le 2048 code ≡ true = grind (arith, nat_tests) in
    rw (long, leads, few, on, end, on_too, end_too, same, least, letter) refl

-- bytes in which a letter is found show it, and then the rest
record IsRead (code : ℕ) (spelling : List ℕ) : Type 0 where
  some : 0 < length spelling
  len : len_utf8 code ≡ length spelling
  text : encode_utf8 code ≡ spelling
  found : (bytes : List ℕ) → letter_at (spelling ++ bytes) ≡ Some code

shown_found : (bytes : List ℕ) (code : ℕ) → letter_at bytes ≡ Some code → shown_at bytes ≡ Letter code
unfolding shown_at
shown_found [] code is = let none : None ≡ Some code = is in absurd (cc)
shown_found (b ∷ bytes) code is = ap (λ (found : Option ℕ). letter_or_byte found b) is

dropped : (a b : List ℕ) (n : ℕ) → n ≡ length a → drop n (a ++ b) ≡ b
dropped a b n is = rw is (grind (arith, common_steps))

read_as_is : (room code : ℕ) (spelling bytes : List ℕ) → IsRead code spelling → letter_width code ≤ room →
    label_text room (spelling ++ bytes) ≡ spelling ++ label_text (room - letter_width code) bytes
read_as_is room code spelling bytes read fits =
    let whole = spelling ++ bytes in
    let shown = shown_found (spelling ++ bytes) code (read.found bytes) in
    let some : 0 < length (spelling ++ bytes) = let first = read.some in grind (arith, common_steps) in
    let room_for : shown_width (shown_at (spelling ++ bytes)) ≤ room =
    subst (λ (s : Shown). shown_width s ≤ room) (sym shown) fits in
    let goes_on = text_goes_on room (spelling ++ bytes) some room_for in
    let part : Shown → List ℕ = λ s. shown_text s ++ label_text (room - shown_width s) (drop (shown_len s) (spelling ++ bytes)) in
    let read_on : part (Letter code) ≡ label_text room (spelling ++ bytes) =
    subst (λ (s : Shown). part s ≡ label_text room (spelling ++ bytes)) shown goes_on in
    let rest = dropped spelling bytes (len_utf8 code) read.len in
    sym read_on ∙ ap (λ (t : List ℕ). t ++ label_text (room - letter_width code) (drop (len_utf8 code) (spelling ++ bytes))) read.text
    ∙ ap (λ (t : List ℕ). spelling ++ label_text (room - letter_width code) t) rest

two_read : (code : ℕ) → is_letter code ≡ true → 128 ≤ code → code < 2048 → IsRead code ((192 + code / 64) ∷ (128 + code % 64) ∷ [])
unfolding encode_utf8
two_read code letter from to =
    let long : nat_lt code 128 ≡ false = grind (arith, nat_tests) in
    let short : nat_lt code 2048 ≡ true = grind (arith, nat_tests) in
    record { some = omega arith; len = rw (long, short) refl; text = rw (long, short) refl; found = λ bytes. two_found code bytes letter from to }

three_read : (code : ℕ) → is_letter code ≡ true → 2048 ≤ code → code < 55296 →
    IsRead code ((224 + code / 4096) ∷ (128 + (code / 64) % 64) ∷ (128 + code % 64) ∷ [])
unfolding encode_utf8
three_read code letter from to =
    let one : nat_lt code 128 ≡ false = grind (arith, nat_tests) in
    let two : nat_lt code 2048 ≡ false = grind (arith, nat_tests) in
    let three : nat_lt code 65536 ≡ true = grind (arith, nat_tests) in
    record {
      some = omega arith;
      len = rw (one, two, three) refl;
      text = rw (one, two, three) refl;
      found = λ bytes. three_found code bytes letter from to;
    }

pub letters_are_read : LettersAreRead
letters_are_read room code bytes other letter fits =
    let scalar : code < 55296 = letter_is_scalar code letter in
    let read : (spelling : List ℕ) → IsRead code spelling →
    label_text room (encode_utf8 code ++ bytes) ≡ encode_utf8 code ++ label_text (room - letter_width code) bytes =
    λ spelling is.
    subst (λ (t : List ℕ). label_text room (t ++ bytes) ≡ t ++ label_text (room - letter_width code) bytes) (sym is.text)
    (read_as_is room code spelling bytes is fits) in
    elim (cases_lt code 2048) [ inl short ↦ read _ (two_read code letter other short) | inr long ↦ read _ (three_read code letter long scalar) ]
