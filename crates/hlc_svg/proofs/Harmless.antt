-- Labels are text and nothing else.
use Rattle.std.proofs.Common.{◌≡◌, ◌≢◌, ◌∙◌, ◌⊎◌, ℕ, ◌+◌, ◌-◌, ◌/◌, ◌%◌, ◌<◌, ◌≤◌, ◌==◌, ◌&&◌, All, true, false, inl, inr, zero, suc, List, [], ◌∷◌, ◌++◌, Option, Some, None, arith, ap, append-nil, codes, flat_map, refl, sym}
use Rattle.std.specs.Prelude.{nat_le, nat_lt, encode_utf8}
use Rattle.std.proofs.lemmas.Bool.{and_parts, cases_Bool}
use Rattle.std.proofs.lemmas.Bool.Decides.{nat_tests}
use Rattle.std.proofs.lemmas.List.Concat.{flat_map-append}
use Rattle.std.proofs.lemmas.List.Elements.{All-append, All-cons, All-head, All-nil, All-tail}
use Rattle.hlc_svg.specs.Label.{byte_text, hex_digit, label_after, letter_or_byte, number_text, plain_text, shown_at, shown_len, shown_text, shown_width}
use Rattle.hlc_svg.specs.LabelLaws.{IsHarmless, IsLetterText, IsName, IsPlain, LabelsAreHarmless}
use Rattle.hlc_svg.specs.Letters.{letter_at}
use Rattle.hlc_svg.proofs.Spelling.{letter_begins}

abbrev IsPiece : List ℕ → Type 0
IsPiece piece = All IsPlain piece ⊎ (IsName piece ⊎ IsLetterText piece)

-- a piece alone is harmless
harmless_piece : (piece : List ℕ) → IsPiece piece → IsHarmless piece
harmless_piece piece h = (piece ∷ [], append-nil piece, All-cons IsPiece piece [] h (All-nil IsPiece))

harmless_nil : IsHarmless []
harmless_nil = ([], refl, All-nil IsPiece)

pub harmless_append : (a b : List ℕ) → IsHarmless a → IsHarmless b → IsHarmless (a ++ b)
harmless_append a b h k = (
  h.0 ++ k.0,
  flat_map-append (λ (piece : List ℕ). piece) h.0 k.0
      ∙ ap (λ (t : List ℕ). t ++ flat_map (λ (piece : List ℕ). piece) k.0) h.1
      ∙ ap (λ (t : List ℕ). a ++ t) k.1,
  All-append IsPiece h.0 k.0 h.2 k.2,
)

plain_one : (c : ℕ) → IsPlain c → All IsPlain (c ∷ [])
plain_one c h = All-cons IsPlain c [] h (All-nil IsPlain)

is_plain : (c : ℕ) → 32 ≤ c → c ≤ 126 → c ≢ 60 → c ≢ 62 → c ≢ 38 → c ≢ 34 → c ≢ 39 → IsPlain c
is_plain c from to a b d e f = record { from = from; to = to; no_less = a; no_greater = b; no_ampersand = d; no_double = e; no_single = f }

numeral_plain : (c : ℕ) → 46 ≤ c → c ≤ 57 → IsPlain c
numeral_plain c from to =
    is_plain c (omega arith) (omega arith) (λ less. absurd (omega arith)) (λ greater. absurd (omega arith))
    (λ ampersand. absurd (omega arith)) (λ double. absurd (omega arith)) (λ single. absurd (omega arith))

letter_plain : (c : ℕ) → 63 ≤ c → c ≤ 126 → IsPlain c
letter_plain c from to =
    is_plain c (omega arith) to (λ less. absurd (omega arith)) (λ greater. absurd (omega arith))
    (λ ampersand. absurd (omega arith)) (λ double. absurd (omega arith)) (λ single. absurd (omega arith))

hex_plain : (d : ℕ) → d < 16 → IsPlain (hex_digit d)
hex_plain d lt =
    elim (cases_Bool (nat_lt d 10)) [
      | inl small ↦ let few : d < 10 = grind (arith, nat_tests, small) in rw small (numeral_plain (48 + d) (omega arith) (omega arith))
      | inr great ↦ let many : 10 ≤ d = grind (arith, nat_tests, great) in rw great (letter_plain (87 + d) (omega arith) (omega arith))
    ]

number_plain : (b : ℕ) → b < 256 → All IsPlain (number_text b)
number_plain b lt =
    let high = hex_digit (b / 16) in
    let low = hex_digit (b % 16) in
    All-cons IsPlain 92 (120 ∷ high ∷ low ∷ []) (letter_plain 92 (omega arith) (omega arith))
    (All-cons IsPlain 120 (high ∷ low ∷ []) (letter_plain 120 (omega arith) (omega arith))
    (All-cons IsPlain high (low ∷ []) (hex_plain (b / 16) (omega arith)) (plain_one low (hex_plain (b % 16) (omega arith)))))

shown_plain : (b : ℕ) → b < 256 → b ≢ 60 → b ≢ 62 → b ≢ 38 → b ≢ 34 → b ≢ 39 → All IsPlain (plain_text b)
shown_plain b lt less greater ampersand double single =
    elim (cases_Bool (nat_le 32 b && nat_le b 126)) [
      | inl seen ↦
          let parts = and_parts (nat_le 32 b) (nat_le b 126) seen in
          let from : 32 ≤ b = grind (arith, nat_tests, parts.0) in
          let to : b ≤ 126 = grind (arith, nat_tests, parts.1) in
          rw seen (plain_one b (is_plain b from to less greater ampersand double single))
      | inr unseen ↦ rw unseen (number_plain b lt)
    ]

-- a test of one number fails
isnt : (b c : ℕ) → (b == c) ≡ false → b ≢ c
isnt b c test same = let yes : (b == c) ≡ true = grind (arith, nat_tests, same) in let both : true ≡ false = sym yes ∙ test in absurd (cc)

-- the same plain character twice
twice_harmless : (c : ℕ) → IsPlain c → IsHarmless (c ∷ c ∷ [])
twice_harmless c plain = harmless_piece (c ∷ c ∷ []) (inl (All-cons IsPlain c (c ∷ []) plain (plain_one c plain)))

byte_harmless : (b : ℕ) → b < 256 → IsHarmless (byte_text b)
byte_harmless b lt =
    elim (cases_Bool (b == 60)) [
      | inl is ↦ rw is (harmless_piece (codes "&lt;") (inr (inl (inl refl))))
      | inr less ↦ rw less (elim (cases_Bool (b == 62)) [
        | inl is ↦ rw is (harmless_piece (codes "&gt;") (inr (inl (inr (inl refl)))))
        | inr greater ↦ rw greater (elim (cases_Bool (b == 38)) [
          | inl is ↦ rw is (harmless_piece (codes "&amp;") (inr (inl (inr (inr (inl refl))))))
          | inr ampersand ↦ rw ampersand (elim (cases_Bool (b == 34)) [
            | inl is ↦ rw is (harmless_piece (codes "&quot;") (inr (inl (inr (inr (inr (inl refl)))))))
            | inr double ↦ rw double (elim (cases_Bool (b == 39)) [
              | inl is ↦ rw is (harmless_piece (codes "&apos;") (inr (inl (inr (inr (inr (inr refl)))))))
              | inr single ↦ rw single (elim (cases_Bool (b == 92)) [
                | inl is ↦ rw is (twice_harmless 92 (letter_plain 92 (omega arith) (omega arith)))
                | inr other ↦
                    let shown =
                    shown_plain b lt (isnt b 60 less) (isnt b 62 greater) (isnt b 38 ampersand) (isnt b 34 double) (isnt b 39 single) in
                    rw other (harmless_piece (plain_text b) (inl shown))
              ])
            ])
          ])
        ])
      ])
    ]

dots_harmless : IsHarmless (codes "..")
dots_harmless = twice_harmless 46 (numeral_plain 46 (omega arith) (omega arith))

found_harmless : (found : Option ℕ) (b : ℕ) (bytes : List ℕ) → b < 256 → letter_at (b ∷ bytes) ≡ found → IsHarmless (shown_text (letter_or_byte found b))
found_harmless None b bytes lt is = byte_harmless b lt
found_harmless (Some code) b bytes lt is =
    let spelled = (letter_begins (b ∷ bytes) code is).spelled in
    harmless_piece (encode_utf8 code) (inr (inr (record { code = code; other = spelled.other; letter = spelled.letter; text = refl })))

shown_harmless : (b : ℕ) (bytes : List ℕ) → b < 256 → IsHarmless (shown_text (shown_at (b ∷ bytes)))
unfolding shown_at
shown_harmless b bytes lt = found_harmless (letter_at (b ∷ bytes)) b bytes lt refl

after_harmless : (passed room : ℕ) (bytes : List ℕ) → All (λ (b : ℕ). b < 256) bytes → IsHarmless (label_after passed room bytes)
after_harmless passed room [] small = harmless_nil
after_harmless (suc passed) room (b ∷ bytes) small = after_harmless passed room bytes (All-tail (λ (b : ℕ). b < 256) b bytes small)
after_harmless zero room (b ∷ bytes) small =
    let lt : b < 256 = All-head (λ (b : ℕ). b < 256) b bytes small in
    let shown = shown_at (b ∷ bytes) in
    let left : ℕ = room - shown_width (shown_at (b ∷ bytes)) in
    let rest = after_harmless (shown_len (shown_at (b ∷ bytes)) - 1) left bytes (All-tail (λ (b : ℕ). b < 256) b bytes small) in
    elim (cases_Bool (nat_lt room (shown_width (shown_at (b ∷ bytes))))) [
      | inl full ↦ rw full dots_harmless
      | inr space ↦
          rw space (harmless_append (shown_text shown) (label_after (shown_len shown - 1) left bytes) (shown_harmless b bytes lt) rest)
    ]

pub labels_are_harmless : LabelsAreHarmless
labels_are_harmless room bytes small = after_harmless 0 room bytes small
