-- Numbers and stamps as the rows show them.
use Rattle.std.specs.Prelude.{ℕ, ◌+◌, ◌-◌, ◌==◌, ◌++◌, List, [], codes, decimal, drop, if◌then◌else◌, length, take}
use Rattle.hlc_stamp.specs.Order.{Pair}
use Rattle.hlc_svg.specs.declared.numbers.FirstDigits.{FirstDigits}

-- how many digits a number has
abbrev pub digits_of : (number : ℕ) → ℕ
digits_of number = length (decimal number)

-- no digits stand in the heading of a column
abbrev pub no_digits : FirstDigits
no_digits = record { of = 0; count = 0 }

-- the digits that do, and those of a number that are left for its row
abbrev pub head_digits : FirstDigits → List ℕ
head_digits first = take first.count (decimal first.of)

abbrev pub rest_digits : FirstDigits → (number : ℕ) → List ℕ
rest_digits first number = drop first.count (decimal number)

-- a number in a row: all its digits or, after two dots, the rest of them; and how many characters that has
abbrev pub row_number : FirstDigits → (number : ℕ) → List ℕ
row_number first number = if first.count == 0 then decimal number else codes ".." ++ rest_digits first number

abbrev pub row_number_width : FirstDigits → (number : ℕ) → ℕ
row_number_width first number = if first.count == 0 then digits_of number else digits_of number - first.count + 2

-- a stamp in a row, and how many characters it has
abbrev pub stamp_text : FirstDigits → Pair → List ℕ
stamp_text first p = codes "(" ++ (row_number first p.l ++ (codes ", " ++ (decimal p.c ++ codes ")")))

abbrev pub stamp_width : FirstDigits → Pair → ℕ
stamp_width first p = row_number_width first p.l + digits_of p.c + 4

-- the first digits after the word of a heading, and how many characters that has
abbrev pub first_text : FirstDigits → List ℕ
first_text first = if first.count == 0 then [] else codes " " ++ (head_digits first ++ codes "..")

abbrev pub first_width : FirstDigits → ℕ
first_width first = if first.count == 0 then 0 else first.count + 3
