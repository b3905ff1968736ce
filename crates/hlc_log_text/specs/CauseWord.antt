-- The words that tell which rule an event broke.
use Rattle.std.specs.Prelude.{ℕ, List, Option, Some, None, if◌then◌else◌, bytes_eq, codes}
use Rattle.hlc_log_text.specs.declared.cause_word.CauseWord.{CauseWord}
use Rattle.hlc_log_text.specs.declared.cause_word.CauseWord.TheVariants as word

-- the text of a word
abbrev pub cause_text : CauseWord → List ℕ
cause_text word.Behind = codes "behind"
cause_text word.NotAbove = codes "not-above"
cause_text word.Ahead = codes "ahead"
cause_text word.Carried = codes "carried"

-- the word that a field spells
abbrev pub cause_word_of : List ℕ → Option CauseWord
cause_word_of field =
    if bytes_eq field (codes "behind") then Some word.Behind
    else if bytes_eq field (codes "not-above") then Some word.NotAbove
    else if bytes_eq field (codes "ahead") then Some word.Ahead
    else if bytes_eq field (codes "carried") then Some word.Carried
    else None
