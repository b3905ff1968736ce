-- The files that a log was put together of.
use Rattle.std.specs.Prelude.{◌==◌, ◌&&◌, ℕ, ◌+◌, ◌-◌, ◌^◌, ◌<◌, ◌++◌, AllPairs, List, [], ◌∷◌, Option, Some, None, codes, decimal, nat_lt, option_map}
use Rattle.std.specs.Bool.{then_some}
use Rattle.std.specs.List.{find}
use Rattle.std.specs.Option.{option_and_then, option_or}
use Rattle.std.specs.Str.{bytes_eq}
use Rattle.hlc_log_text.specs.declared.file_mark.FileMark.{FileMark}
use Rattle.hlc_log_text.specs.declared.location.Location.{Location}

-- each mark stands on a later line than those before it
abbrev pub MarksRise : List FileMark → Type 0
MarksRise marks = AllPairs (λ first second. first.line < second.line) marks

-- the last of some marks that stands before a line, if one does
abbrev pub mark_before : List FileMark → ℕ → Option FileMark
mark_before [] line = None
mark_before (mark ∷ marks) line = option_or (mark_before marks line) (then_some (nat_lt mark.line line) mark)

-- where a line stands by the last mark before it: so many lines after that, or in no file if there is none
abbrev pub location_after : Option FileMark → ℕ → Location
location_after None line = record { file = None; line = line }
location_after (Some mark) line = record { file = Some mark.name; line = line - mark.line }

-- where a line of a log of some files stands
abbrev pub location_of : List FileMark → ℕ → Location
location_of files line = location_after (mark_before files line) line

-- the number of a line, after the name of its file if it is in one: LINE or NAME:LINE
abbrev pub text_in : (file : Option (List ℕ)) → (line : ℕ) → List ℕ
text_in None line = decimal line
text_in (Some name) line = name ++ (codes ":" ++ decimal line)

-- how a location is told
abbrev pub location_text : Location → List ℕ
location_text location = text_in location.file location.line

-- how a line of a log of some files is told
abbrev pub line_text : List FileMark → ℕ → List ℕ
line_text files line = location_text (location_of files line)

-- the first mark of a name, if there is one
abbrev pub mark_named : List FileMark → List ℕ → Option FileMark
mark_named files name = find (λ mark. bytes_eq mark.name name) files

-- the line after which those of a file are counted: that of the first mark of its name; those in no file are counted from the beginning
abbrev pub start_of : List FileMark → Option (List ℕ) → Option ℕ
start_of files None = Some 0
start_of files (Some name) = option_map (λ mark. mark.line) (mark_named files name)

-- a line, if its number has 64 bits and is this one in its file, so that no mark stands between
abbrev pub if_counted : List FileMark → (number line : ℕ) → Option ℕ
if_counted files number line = then_some (nat_lt line (2 ^ 64) && ((location_of files line).line == number)) line

-- the line of a location, if a log of some files has it
abbrev pub line_at : List FileMark → Location → Option ℕ
line_at files location = option_and_then (λ start. if_counted files location.line (start + location.line)) (start_of files location.file)
