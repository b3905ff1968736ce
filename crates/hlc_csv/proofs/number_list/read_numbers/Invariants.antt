use Rattle.std.proofs.Common.{◌≡◌, ℕ, List, Option, drop}
use Rattle.csv.specs.Records.{fields_of}
use Rattle.hlc_csv.specs.NumberList.{ReadsAsNumbers, numbers_in}
use Rattle.hlc_csv.proofs.ListedNumbers.{with_rest}
use Rattle.hlc_csv.proofs.number_list.read_numbers.Given as goal

abbrev pub invariant-loop-place : goal.invariant-loop-place
invariant-loop-place g l =
    let fields = fields_of l.fields in
    (value : g.row.N.Denot → ℕ) (number : List ℕ → Option ℕ) → ReadsAsNumbers g.F.Fn l.read value number
    → with_rest value l.numbers.items (numbers_in number (drop l.place fields)) ≡ numbers_in number (drop l.fn.start fields)
