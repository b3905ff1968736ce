-- Stamps as text.
use Rattle.std.specs.Prelude.{◌==◌, ◌&&◌, ℕ, ◌+◌, List, [], ◌∷◌, ◌++◌, Option, Some, None, decimal, drop, if◌then◌else◌, nat_le, position, take}
use Rattle.hlc_stamp.specs.declared.stamp.Stamp.{Stamp}
use Rattle.hlc_stamp.specs.Order.{Pair}
use Rattle.hlc_csv.specs.Number.{number_of, of_both}

-- the text of a stamp: l, a dot and c
abbrev pub dotted_text : Pair → List ℕ
dotted_text p = decimal p.l ++ 46 ∷ decimal p.c

-- the text of a stamp that an event may lack: (0, 0) stands for none
abbrev pub dotted_or_none : Pair → List ℕ
dotted_or_none p = if (p.l == 0) && (p.c == 0) then [] else dotted_text p

-- the text of a number that an event may lack: 0 stands for none
abbrev pub number_or_none : ℕ → List ℕ
number_or_none n = if n == 0 then [] else decimal n

-- a number, if it has at most 32 bits
abbrev pub if_count : Option ℕ → Option ℕ
if_count (Some n) = if nat_le n 4294967295 then Some n else None
if_count None = None

-- the c that a field writes, if it has at most 32 bits
abbrev pub count_of : List ℕ → Option ℕ
count_of field = if_count (number_of field)

-- the stamp of which two fields are the numbers
abbrev pub pair_stamp : (l c : List ℕ) → Option Stamp
pair_stamp l c = of_both (λ l c. record { l = l; c = c }) (number_of l) (count_of c)

-- the stamp that a field writes with a dot at a place: l stands before it, and c after it
abbrev pub stamp_around : Option ℕ → List ℕ → Option Stamp
stamp_around None field = None
stamp_around (Some dot) field = pair_stamp (take dot field) (drop (dot + 1) field)

-- the stamp that a field writes with a dot; with a second one there is none, since c is all digits
abbrev pub dotted_stamp : List ℕ → Option Stamp
dotted_stamp field = stamp_around (position (λ byte. byte == 46) field) field
