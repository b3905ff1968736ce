-- The words of logs.
use Rattle.std.specs.Prelude.{◌==◌, ◌||◌, ℕ, ◌+◌, Bool, List, Option, Some, None, if◌then◌else◌, bytes_eq, codes}
use Rattle.hlc_log_text.specs.StampForms.{stamp_field_count}
use Rattle.hlc_log_text.specs.declared.stamp_form.StampForm.{StampForm}
use Rattle.hlc_log_text.specs.declared.log_word.LogWord.{LogWord}
use Rattle.hlc_log_text.specs.declared.log_word.LogWord.TheVariants as word

-- the text of a word
abbrev pub word_text : LogWord → List ℕ
word_text word.Local = codes "local"
word_text word.Send = codes "send"
word_text word.Receive = codes "receive"
word_text word.Restart = codes "restart"

-- the word that a field spells
abbrev pub log_word_of : List ℕ → Option LogWord
log_word_of field =
    if bytes_eq field (codes "local") then Some word.Local
    else if bytes_eq field (codes "send") then Some word.Send
    else if bytes_eq field (codes "receive") then Some word.Receive
    else if bytes_eq field (codes "restart") then Some word.Restart
    else None

-- how many fields a record of a word has, without the label that may follow them
abbrev pub log_field_count : StampForm → LogWord → ℕ
log_field_count form word.Local = 3 + stamp_field_count form
log_field_count form word.Send = 4 + stamp_field_count form
log_field_count form word.Receive = 4 + stamp_field_count form
log_field_count form word.Restart = 3 + stamp_field_count form

-- so many fields are those of the word, with a label or without
abbrev pub has_fields_of : StampForm → LogWord → ℕ → Bool
has_fields_of form w count = (count == log_field_count form w) || (count == log_field_count form w + 1)
