-- What a node gives after a restart is above what it gave before.
use Rattle.std.proofs.Common.{List, [], ◌∷◌, All, AllPairs, arith}
use Rattle.std.proofs.lemmas.List.Elements.{All-cons}
use Rattle.std.proofs.lemmas.List.Kept.{AllPairs-cons}
use Rattle.hlc_stamp.specs.Order.{IsAtMost, IsBelow, Pair}
use Rattle.hlc_stamp.proofs.OrderLaws.{at_most_below, at_most_from_below, at_most_itself, at_most_trans}
use Rattle.hlc_packed.specs.Restart.{Act, Gives, KeepsBounds, Persists, Restarts, Sees, given}

-- each stamp that is given is above what is at most the clock and the bound
given_above : (floor clock bound : Pair) (acts : List Act) → IsAtMost floor clock → IsAtMost floor bound
    → KeepsBounds clock bound acts → All (IsBelow floor) (given acts)
given_above floor clock bound [] low low_bound kept = λ k d below. absurd (omega arith)
given_above floor clock bound (Gives stamp ∷ rest) low low_bound kept =
    let above = at_most_below floor clock stamp low kept.0 in
    All-cons (IsBelow floor) stamp (given rest) above
    (given_above floor stamp bound rest (at_most_from_below floor stamp above) low_bound kept.2)
given_above floor clock bound (Sees stamp ∷ rest) low low_bound kept =
    given_above floor stamp bound rest (at_most_trans floor clock stamp low kept.0) low_bound kept.1
given_above floor clock bound (Persists next ∷ rest) low low_bound kept =
    given_above floor clock next rest low (at_most_trans floor bound next low_bound kept.0) kept.1
given_above floor clock bound (Restarts ∷ rest) low low_bound kept = given_above floor bound bound rest low_bound low_bound kept

-- so each is above all before
pub given_rise : (clock bound : Pair) (acts : List Act) → KeepsBounds clock bound acts → AllPairs IsBelow (given acts)
given_rise clock bound [] kept = λ i j d before below. absurd (omega arith)
given_rise clock bound (Gives stamp ∷ rest) kept =
    AllPairs-cons IsBelow stamp (given rest)
    (given_above stamp stamp bound rest (at_most_itself stamp) kept.1 kept.2) (given_rise stamp bound rest kept.2)
given_rise clock bound (Sees stamp ∷ rest) kept = given_rise stamp bound rest kept.1
given_rise clock bound (Persists next ∷ rest) kept = given_rise clock next rest kept.1
given_rise clock bound (Restarts ∷ rest) kept = given_rise bound bound rest kept
