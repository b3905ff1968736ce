-- The laws of labels, in a reader's words.
use Rattle.std.specs.Prelude.{◌≡◌, ◌≢◌, ◌⊎◌, ℕ, ◌-◌, ◌++◌, ◌<◌, ◌≤◌, All, IsTrue, List, codes, encode_utf8}
use Rattle.std.specs.List.{flat_map}
use Rattle.hlc_svg.specs.Characters.{IsInside, StandsAlone, eastern, western}
use Rattle.hlc_svg.specs.Label.{label_text, letter_width}
use Rattle.hlc_svg.specs.Letters.{is_letter}

-- a printable character of ASCII that isn't XML's own: neither `<`, `>`, `&` nor a quote
pub record IsPlain (c : ℕ) : Type 0 where
  pub from : 32 ≤ c
  pub to : c ≤ 126
  pub no_less : c ≢ 60
  pub no_greater : c ≢ 62
  pub no_ampersand : c ≢ 38
  pub no_double : c ≢ 34
  pub no_single : c ≢ 39

-- XML's name of one of these
abbrev pub IsName : List ℕ → Type 0
IsName piece = (piece ≡ codes "&lt;") ⊎ ((piece ≡ codes "&gt;") ⊎ ((piece ≡ codes "&amp;") ⊎ ((piece ≡ codes "&quot;") ⊎ (piece ≡ codes "&apos;"))))

-- a letter of another script, in UTF-8
pub record IsLetterText (piece : List ℕ) : Type 0 where
  pub code : ℕ
  pub other : 128 ≤ code
  pub letter : IsTrue (is_letter code)
  pub text : encode_utf8 code ≡ piece

-- a text can't be anything but text: it is made of plain characters, of such names, and of letters of other scripts
abbrev pub IsHarmless : List ℕ → Type 0
IsHarmless text =
    (pieces : List (List ℕ)) × (flat_map (λ piece. piece) pieces ≡ text) × All (λ piece. All IsPlain piece ⊎ (IsName piece ⊎ IsLetterText piece)) pieces

-- so is what stands in a picture of a name, a key or a value, whatever bytes it has
abbrev pub LabelsAreHarmless : Type 0
LabelsAreHarmless = (room : ℕ) (bytes : List ℕ) → All (λ b. b < 256) bytes → IsHarmless (label_text room bytes)

-- if there is room for it, a letter of another script is read there as it is
abbrev pub LettersAreRead : Type 0
LettersAreRead = (room code : ℕ) (bytes : List ℕ) → 128 ≤ code → IsTrue (is_letter code) → letter_width code ≤ room →
    label_text room (encode_utf8 code ++ bytes) ≡ encode_utf8 code ++ label_text (room - letter_width code) bytes

-- and each such letter is seen, stands alone, and is read from left to right
abbrev pub LettersStandAlone : Type 0
LettersStandAlone = (code : ℕ) → IsTrue (is_letter code) → StandsAlone code

-- the letters of these scripts are among them
abbrev pub ScriptsAreLetters : Type 0
ScriptsAreLetters = (code : ℕ) → IsInside code western ⊎ IsInside code eastern → IsTrue (is_letter code)
