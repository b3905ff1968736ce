-- Records of a log that are bad and were left out.
use Rattle.std.specs.Prelude.{Bool, ℕ, List, [], ◌∷◌, ◌++◌, Option, Some, None, bytes_eq, codes, count_by, decimal}
use Rattle.std.specs.List.{find}
use Rattle.hlc_csv.specs.Rows.{Fields}
use Rattle.hlc_log_text.specs.BadLog.{bad_log_word}
use Rattle.hlc_log_text.specs.Files.{line_text}
use Rattle.hlc_log_text.specs.declared.file_mark.FileMark.{FileMark}
use Rattle.hlc_log_text.specs.declared.bad_log.BadLine.{BadLine}

-- whether a record is bad for a reason of this word
abbrev pub has_word : List ℕ → BadLine → Bool
has_word word b = bytes_eq (bad_log_word b.why) word

-- the row of a word with the first such record, if there is one: how many there are, and the line of the first
abbrev pub left_out_row : List FileMark → (word : List ℕ) → (count : ℕ) → Option BadLine → List Fields
left_out_row files word count None = []
left_out_row files word count (Some first) = (codes "left-out" ∷ word ∷ decimal count ∷ line_text files first.line ∷ []) ∷ []

abbrev pub row_of_word : List FileMark → (word : List ℕ) → List BadLine → List Fields
row_of_word files word left_out = left_out_row files word (count_by (has_word word) left_out) (find (has_word word) left_out)

-- the rows of all words with which records are left out
abbrev pub left_out_rows : List FileMark → List BadLine → List Fields
left_out_rows files left_out =
    row_of_word files (codes "word") left_out ++ (row_of_word files (codes "fields") left_out ++ (row_of_word files (codes "number") left_out
    ++ (row_of_word files (codes "name") left_out ++ (row_of_word files (codes "node") left_out ++ (row_of_word files (codes "field") left_out
    ++ (row_of_word files (codes "sent-twice") left_out ++ row_of_word files (codes "cycle") left_out))))))
