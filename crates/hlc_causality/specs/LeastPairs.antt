-- Least pairs by functions: each is made from those of the direct predecessors.
use Rattle.std.specs.Prelude.{ℕ, zero, suc, ◌+◌, Option, Some, None, List, [], ◌∷◌, ◌++◌, length, if◌then◌else◌}
use Rattle.std.specs.Ordering.{is_le}
use Rattle.hlc_stamp.specs.Order.{Pair, stamp_cmp}
use Rattle.hlc_causality.specs.Assignment.{pair_at}
use Rattle.hlc_causality.specs.Causality.{Skeleton, skeleton_at}
use Rattle.hlc_causality.specs.Predecessors.{previous_of, send_of}

-- the least pair that is at least p and above q
abbrev pub raised : Pair → Pair → Pair
raised p q = if is_le (stamp_cmp p q) then record { l = q.l; c = q.c + 1 } else p

-- the least pair that is at least p and above that of an event, if there is one
abbrev pub raised_over : List Pair → Pair → Option ℕ → Pair
raised_over pairs p None = p
raised_over pairs p (Some d) = raised p (pair_at pairs d)

-- the least pair above that of the previous event of f and not behind the reading of f
abbrev pub least_at_node : Skeleton → List Pair → ℕ → Pair
least_at_node s pairs f = raised_over pairs (record { l = (skeleton_at s f).reading; c = 0 }) (previous_of s f)

-- the least pair above those of the direct predecessors of f and not behind the reading of f
abbrev pub least_above : Skeleton → List Pair → ℕ → Pair
least_above s pairs f = raised_over pairs (least_at_node s pairs f) (send_of s f)

-- the least pairs of the first n events
abbrev pub first_least_pairs : Skeleton → ℕ → List Pair
first_least_pairs s zero = []
first_least_pairs s (suc n) = let before = first_least_pairs s n in before ++ least_above s before n ∷ []

-- the least pair of each event
unfoldable pub least_pairs : Skeleton → List Pair
least_pairs s = first_least_pairs s (length s)
