-- Characters that change how a text reads without being seen as a part of it, and letters that are to be seen: in ranges of Unicode's numbers, each
-- from its first to its last.
use Rattle.std.specs.Prelude.{◌⊎◌, ℕ, ◌<◌, ◌≤◌, All, Contains, List, [], ◌∷◌}

-- control characters: C0, and DEL with C1
abbrev pub controls : List (ℕ × ℕ)
controls = (0x0, 0x1F) ∷ (0x7F, 0x9F) ∷ []

-- what has no shape of its own: the soft hyphen, Mongolian selectors, spaces, joiners, line separators and the other format characters of general
-- punctuation, the ideographic space, the Hangul fillers, variation selectors, the byte order mark, and specials
abbrev pub formats : List (ℕ × ℕ)
formats =
    (0xA0, 0xA0) ∷ (0xAD, 0xAD) ∷ (0x115F, 0x1160) ∷ (0x180B, 0x180F) ∷ (0x2000, 0x200F) ∷ (0x2028, 0x202F) ∷ (0x205F, 0x206F) ∷ (0x3000, 0x3000)
    ∷ (0x3164, 0x3164) ∷ (0xFE00, 0xFE0F) ∷ (0xFEFF, 0xFEFF) ∷ (0xFFA0, 0xFFA0) ∷ (0xFFF0, 0xFFFF) ∷ []

-- what runs to the left: marks, embeddings, overrides and isolates of direction, and the scripts from Hebrew and Arabic on, with their other forms
abbrev pub directions : List (ℕ × ℕ)
directions =
    (0x590, 0x8FF) ∷ (0x200E, 0x200F) ∷ (0x202A, 0x202E) ∷ (0x2066, 0x2069) ∷ (0xFB1D, 0xFDFF) ∷ (0xFE70, 0xFEFF) ∷ (0x10800, 0x10FFF)
    ∷ (0x1E800, 0x1EFFF) ∷ []

-- what is put onto the character before: combining marks, those of Cyrillic, of Hebrew and of symbols, tones and voicing, and jamo that join
abbrev pub marks : List (ℕ × ℕ)
marks =
    (0x300, 0x36F) ∷ (0x483, 0x489) ∷ (0x591, 0x5BD) ∷ (0x1100, 0x11FF) ∷ (0x1AB0, 0x1AFF) ∷ (0x1DC0, 0x1DFF) ∷ (0x20D0, 0x20FF)
    ∷ (0x302A, 0x302F) ∷ (0x3099, 0x309A) ∷ (0xA960, 0xA97F) ∷ (0xD7B0, 0xD7FF) ∷ (0xFE20, 0xFE2F) ∷ []

-- what is no character of its own: surrogates, and private use
abbrev pub unassigned : List (ℕ × ℕ)
unassigned = (0xD800, 0xDFFF) ∷ (0xE000, 0xF8FF) ∷ (0xF0000, 0x10FFFF) ∷ []

-- a character is in none of some ranges
abbrev pub IsOutside : (code : ℕ) → List (ℕ × ℕ) → Type 0
IsOutside code ranges = All (λ range. (code < range.0) ⊎ (range.1 < code)) ranges

-- a character is seen, stands alone, and is read from left to right
pub record StandsAlone (code : ℕ) : Type 0 where
  pub no_control : IsOutside code controls
  pub no_format : IsOutside code formats
  pub no_direction : IsOutside code directions
  pub no_mark : IsOutside code marks
  pub assigned : IsOutside code unassigned

-- letters of Latin with accents and of IPA, of Greek, and of Cyrillic
abbrev pub western : List (ℕ × ℕ)
western = (0xC0, 0xD6) ∷ (0xD8, 0xF6) ∷ (0xF8, 0x2AF) ∷ (0x1E00, 0x1EFF) ∷ (0x391, 0x3A1) ∷ (0x3A3, 0x3CE) ∷ (0x400, 0x481) ∷ (0x48A, 0x52F) ∷ []

-- hiragana, katakana, bopomofo, Chinese characters, and syllables of Korean
abbrev pub eastern : List (ℕ × ℕ)
eastern = (0x3041, 0x3096) ∷ (0x30A1, 0x30FA) ∷ (0x3105, 0x312F) ∷ (0x3400, 0x4DBF) ∷ (0x4E00, 0x9FFF) ∷ (0xAC00, 0xD7A3) ∷ []

-- a character is in one of some ranges
abbrev pub IsInside : (code : ℕ) → List (ℕ × ℕ) → Type 0
IsInside code ranges = (range : ℕ × ℕ) × Contains ranges range × (range.0 ≤ code) × (code ≤ range.1)
