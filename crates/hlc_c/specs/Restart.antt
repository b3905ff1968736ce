-- Where the clock of a node begins that may have died.
use Rattle.std.specs.Prelude.{ℕ, ◌+◌, ◌≤◌, ◌↔◌}
use Rattle.hlc_stamp.specs.Order.{IsBelow, Pair}

-- the pair at which a clock begins from a bound
abbrev pub first_of : (bound : ℕ) → Pair
first_of bound = record { l = bound; c = 0 }

-- below a bound are the pairs whose l is at most the window past the clock's, and no others
abbrev pub IsBoundOf : (clock : Pair) (window bound : ℕ) → Type 0
IsBoundOf clock window bound = (p : Pair) → IsBelow p (first_of bound) ↔ (p.l ≤ clock.l + window)
