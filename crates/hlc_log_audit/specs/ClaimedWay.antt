-- The way that the l of a claimed stamp came: back over direct predecessors that claim the same l.
use Rattle.std.specs.Prelude.{◌≡◌, ◌==◌, ℕ, zero, suc, ◌≤◌, List, [], ◌∷◌, ◌++◌, Option, Some, None, if◌then◌else◌, nat_lt, option_map, unwrap_or}
use Rattle.hlc_stamp.specs.Order.{Pair}
use Rattle.hlc_causality.specs.Assignment.{pair_at}
use Rattle.hlc_causality.specs.Causality.{IsDirectPredecessor, Skeleton}
use Rattle.hlc_causality.specs.Predecessors.{previous_of, send_of}

-- an event, if it claims the same l as f
abbrev pub if_same_l : List Pair → ℕ → Option ℕ → Option ℕ
if_same_l claimed f None = None
if_same_l claimed f (Some d) = if (pair_at claimed d).l == (pair_at claimed f).l then Some d else None

-- of two events, if there are any, the one that claims the greater c, or the first if they claim the same
abbrev pub greater_c : List Pair → Option ℕ → Option ℕ → Option ℕ
greater_c claimed None second = second
greater_c claimed (Some d) None = Some d
greater_c claimed (Some d) (Some e) = if nat_lt (pair_at claimed d).c (pair_at claimed e).c then Some e else Some d

-- the event from which f's claimed l came: the direct predecessor with the same claimed l; of two such, the one with the greater
-- claimed c, or the previous event of the node if these are equal
abbrev pub source_of : Skeleton → List Pair → ℕ → Option ℕ
source_of s claimed f = greater_c claimed (if_same_l claimed f (previous_of s f)) (if_same_l claimed f (send_of s f))

-- f, and before it the events from which its claimed l came, of which at most n are followed back
abbrev pub way_back : Skeleton → List Pair → ℕ → ℕ → List ℕ
way_back s claimed zero f = f ∷ []
way_back s claimed (suc n) f = unwrap_or (option_map (λ d. way_back s claimed n d) (source_of s claimed f)) [] ++ f ∷ []

-- the way of f's claimed l, which has at most f events before it
abbrev pub claimed_way : Skeleton → List Pair → ℕ → List ℕ
claimed_way s claimed f = way_back s claimed f f

-- f's claimed l can have come from d, a direct predecessor that claims the same
pub record BringsL (s : Skeleton) (claimed : List Pair) (d f : ℕ) : Type 0 where
  pub direct : IsDirectPredecessor s d f
  pub same_l : (pair_at claimed d).l ≡ (pair_at claimed f).l

-- no other direct predecessor that claims the same l has a greater claimed c than d
pub record BringsGreatestC (s : Skeleton) (claimed : List Pair) (d f : ℕ) : Type 0 where
  pub brings : BringsL s claimed d f
  pub none_greater : (e : ℕ) → BringsL s claimed e f → (pair_at claimed e).c ≤ (pair_at claimed d).c

-- from e on, each event brings the l to the next, up to f
abbrev pub BringsAlong : Skeleton → List Pair → ℕ → List ℕ → ℕ → Type 0
BringsAlong s claimed e [] f = e ≡ f
BringsAlong s claimed e (m ∷ rest) f = BringsGreatestC s claimed e m × BringsAlong s claimed m rest f

-- e brought the l in, since none of its direct predecessors claims it, and from e on it came to f
pub record CameFrom (s : Skeleton) (claimed : List Pair) (e : ℕ) (rest : List ℕ) (f : ℕ) : Type 0 where
  pub brought_in : (d : ℕ) → ¬ BringsL s claimed d e
  pub along : BringsAlong s claimed e rest f

-- a list of events is a way on which f's claimed l came
abbrev pub IsWayOfL : Skeleton → List Pair → ℕ → List ℕ → Type 0
IsWayOfL s claimed f [] = ⊥
IsWayOfL s claimed f (e ∷ rest) = CameFrom s claimed e rest f
