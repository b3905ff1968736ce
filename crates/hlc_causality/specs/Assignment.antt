-- Assignments of pairs to events, and the least of them.
use Rattle.std.specs.Prelude.{◌≡◌, ℕ, ◌<◌, ◌≤◌, List, length, slice_index_or}
use Rattle.hlc_stamp.specs.Order.{IsAtMost, IsBelow, Pair, zero_pair}
use Rattle.hlc_causality.specs.Causality.{HappenedBefore, IsDirectPredecessor, Skeleton, skeleton_at}

-- the pair at a place
abbrev pub pair_at : List Pair → ℕ → Pair
pair_at pairs e = slice_index_or pairs e zero_pair

-- an assignment is allowed: one pair for each event, none behind its event's reading, rising along happened-before
pub record IsAllowed (s : Skeleton) (pairs : List Pair) : Type 0 where
  pub one_each : length pairs ≡ length s
  pub not_behind : (e : ℕ) → e < length s → (skeleton_at s e).reading ≤ (pair_at pairs e).l
  pub rising : (e f : ℕ) → HappenedBefore s e f → IsBelow (pair_at pairs e) (pair_at pairs f)

-- allowed, and at each event at most what any allowed assignment has there
pub record IsLeast (s : Skeleton) (pairs : List Pair) : Type 0 where
  pub allowed : IsAllowed s pairs
  pub least : (others : List Pair) → IsAllowed s others → (e : ℕ) → e < length s → IsAtMost (pair_at pairs e) (pair_at others e)

-- p is above the pairs of the direct predecessors of f, and not behind the reading of f
pub record IsAllowedAt (s : Skeleton) (pairs : List Pair) (f : ℕ) (p : Pair) : Type 0 where
  pub above : (d : ℕ) → IsDirectPredecessor s d f → IsBelow (pair_at pairs d) p
  pub not_behind : (skeleton_at s f).reading ≤ p.l

-- p is the least pair above those of the direct predecessors of f and not behind the reading of f
pub record IsLeastAbove (s : Skeleton) (pairs : List Pair) (f : ℕ) (p : Pair) : Type 0 where
  pub allowed : IsAllowedAt s pairs f p
  pub least : (q : Pair) → IsAllowedAt s pairs f q → IsAtMost p q

-- each pair is allowed at its place
abbrev pub EachIsAllowed : Skeleton → List Pair → Type 0
EachIsAllowed s pairs = (f : ℕ) → f < length s → IsAllowedAt s pairs f (pair_at pairs f)

-- each pair is the least above those of the direct predecessors
abbrev pub EachIsLeastAbove : Skeleton → List Pair → Type 0
EachIsLeastAbove s pairs = (f : ℕ) → f < length s → IsLeastAbove s pairs f (pair_at pairs f)

-- every allowed assignment has at e at least the pair that stands there
abbrev pub IsForcedAt : Skeleton → List Pair → ℕ → Type 0
IsForcedAt s pairs e = (others : List Pair) → IsAllowed s others → IsAtMost (pair_at pairs e) (pair_at others e)
