use Rattle.std.proofs.Common.{◌≡◌, ◌++◌, decimal, map, take}
use Rattle.csv.specs.Writing.{fields_text}
use Rattle.hlc_csv.specs.Rows.{row_setup}
use Rattle.hlc_csv.proofs.row_buffer.put_numbers.Given as goal

abbrev pub invariant-loop-number : goal.invariant-loop-number
invariant-loop-number l = l.text.items ≡ l.fn.text.items ++ fields_text row_setup (map decimal (take l.number-index l.numbers))
