-- Direct predecessors by functions: the previous event of a node, and the send that an event delivers.
use Rattle.std.specs.Prelude.{ℕ, zero, suc, ◌==◌, Option, Some, None, if◌then◌else◌, nat_lt}
use Rattle.hlc_causality.specs.Causality.{Skeleton, skeleton_at}

-- the latest event of a node before a place
abbrev pub latest_before : Skeleton → ℕ → ℕ → Option ℕ
latest_before s node zero = None
latest_before s node (suc n) = if (skeleton_at s n).node == node then Some n else latest_before s node n

-- the previous event of f's node
abbrev pub previous_of : Skeleton → ℕ → Option ℕ
previous_of s f = latest_before s (skeleton_at s f).node f

-- an event, if it is earlier than f
abbrev pub if_earlier : ℕ → Option ℕ → Option ℕ
if_earlier f None = None
if_earlier f (Some e) = if nat_lt e f then Some e else None

-- the send that f delivers
abbrev pub send_of : Skeleton → ℕ → Option ℕ
send_of s f = if_earlier f (skeleton_at s f).send
