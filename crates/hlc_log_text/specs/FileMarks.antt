-- Records that name the file whose records come after them.
use Rattle.std.specs.Prelude.{◌==◌, ℕ, ◌-◌, List, Option, None, codes, drop, if◌then◌else◌, length, option_map, take}
use Rattle.std.specs.Bool.{then_some}
use Rattle.std.specs.Option.{option_and_then}
use Rattle.std.specs.Str.{bytes_eq}
use Rattle.hlc_csv.specs.Rows.{Fields, field_of}
use Rattle.hlc_log_text.specs.declared.file_mark.FileMark.{FileMark}
use Rattle.hlc_log_text.specs.NamedEvent.{is_name}

-- what follows some bytes, if a field begins with them, and what comes before some, if it ends with them
abbrev pub after_bytes : (first field : List ℕ) → Option (List ℕ)
after_bytes first field = then_some (bytes_eq (take (length first) field) first) (drop (length first) field)

abbrev pub before_bytes : (last field : List ℕ) → Option (List ℕ)
before_bytes last field =
    let rest = length field - length last in
    then_some (bytes_eq (drop rest field) last) (take rest field)

-- what stands between the signs of a file mark
abbrev pub marked : List ℕ → Option (List ℕ)
marked field = option_and_then (before_bytes (codes " <==")) (after_bytes (codes "==> ") field)

-- the name of the file that a field marks: `==> NAME <==`
abbrev pub file_name : List ℕ → Option (List ℕ)
file_name field = option_and_then (λ name. then_some (is_name name) name) (marked field)

-- the name of the file that a record begins, which is one such field
abbrev pub begun_file : Fields → Option (List ℕ)
begun_file fields = if length fields == 1 then file_name (field_of fields 0) else None

-- the mark of a file on a line, if one begins there
abbrev pub file_mark : (line : ℕ) → Option (List ℕ) → Option FileMark
file_mark line name = option_map (λ name. record { name = name; line = line }) name
