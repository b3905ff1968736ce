-- What is written is read back.
use Rattle.std.specs.Prelude.{◌≡◌, ◌^◌, ◌<◌, ℕ, Some, decimal}
use Rattle.hlc_stamp.specs.Order.{Pair}
use Rattle.hlc_csv.specs.Number.{number_of}
use Rattle.hlc_log_line.specs.StampText.{dotted_stamp, dotted_text}

-- a stamp is read back from its text
abbrev pub StampsAreReadBack : Type 0
StampsAreReadBack = (p : Pair) → p.l < 2 ^ 64 → p.c < 2 ^ 32 → dotted_stamp (dotted_text p) ≡ Some p

-- a number is, as packed stamps are numbers
abbrev pub NumbersAreReadBack : Type 0
NumbersAreReadBack = (n : ℕ) → n < 2 ^ 64 → number_of (decimal n) ≡ Some n
