-- The files that a log was put together of, as its lines come.
use Rattle.std.specs.Prelude.{◌+◌, ◌-◌, ◌^◌, ℕ, zero, suc, List, [], ◌∷◌, Option, None, max, min, slice_get, slice_index_or, slice_set}
use Rattle.hlc_log_text.specs.Files.{text_in}
use Rattle.hlc_watch.specs.declared.file_line.FileLine.{FileLine}
use Rattle.hlc_watched_log.specs.Numbers.{with_number}

-- of each file by its number, how many of its lines came before its last mark; the number of the file that is read, the line of the input on which its
-- last mark stands, and that of the last record. What comes before the first mark is file 0
pub record KeptFiles : Type 0 where
  pub counted : List ℕ
  pub current : ℕ
  pub begun : ℕ
  pub last : ℕ

-- nothing came
abbrev pub no_files : KeptFiles
no_files = record { counted = 0 ∷ []; current = 0; begun = 0; last = 0 }

-- the next record stands on a line
abbrev pub moved_to : KeptFiles → (line : ℕ) → KeptFiles
moved_to files line = record files { last = line }

-- the number of a line of the input in the file that is read, whose lines go on counting where they were at its last mark; it has 32 bits
abbrev pub number_at : KeptFiles → (line : ℕ) → ℕ
number_at files line = min (slice_index_or files.counted files.current 0 + (line - files.begun)) (2 ^ 32 - 1)

-- where the last record stands
abbrev pub line_here : KeptFiles → FileLine
line_here files = record { file = files.current; number = number_at files files.last }

-- the last line of a file before a mark: the one right before the mark is one of the file only if a record begins there, since `tail` puts an empty one
abbrev pub last_before : KeptFiles → (mark : ℕ) → ℕ
last_before files mark = max files.last (mark - 2)

-- a mark on a line begins a file, or goes on with it
abbrev pub marked_at : KeptFiles → (file line : ℕ) → KeptFiles
marked_at files file line = record {
  counted = slice_set (with_number 0 files.counted file) files.current (number_at files (last_before files line));
  current = file;
  begun = line;
  last = line;
}

-- the name of the file of a number, if it has one
abbrev pub file_named : (names : List (List ℕ)) → ℕ → Option (List ℕ)
file_named names zero = None
file_named names (suc file) = slice_get names file

-- how a line is told
abbrev pub told_line : (names : List (List ℕ)) → FileLine → List ℕ
told_line names line = text_in (file_named names line.file) line.number
