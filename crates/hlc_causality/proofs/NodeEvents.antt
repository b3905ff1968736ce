-- A node has one event that is furthest ahead.
use Rattle.std.proofs.Common.{◌≡◌, ℕ, inl, inr, List, arith}
use Rattle.std.proofs.lemmas.Bool.{cases_lt}
use Rattle.hlc_stamp.specs.Order.{Pair}
use Rattle.hlc_causality.specs.Causality.{Skeleton}
use Rattle.hlc_causality.specs.NodeEvents.{IsFurthestAhead}

pub furthest_is_unique : (s : Skeleton) (pairs : List Pair) (node e f : ℕ)
    → IsFurthestAhead s pairs node e → IsFurthestAhead s pairs node f → e ≡ f
furthest_is_unique s pairs node e f a b =
    elim (cases_lt e f) [
      | inl lt ↦ let less = b.first e a.event lt in let le = a.none_greater f b.event in absurd (omega arith)
      | inr le ↦ elim (cases_lt f e) [
        | inl lt ↦ let less = a.first f b.event lt in let most = b.none_greater e a.event in absurd (omega arith)
        | inr ge ↦ omega arith
      ]
    ]
