-- The state of a cluster: its history, and the messages that are live.
use Rattle.std.specs.Prelude.{◌≡◌, ◌==◌, ◌⊎◌, ℕ, ◌<◌, ◌||◌, Bool, false, Option, Some, None, List, [], filter, length, if◌then◌else◌, nat_lt, All, AllPairs, IsSome, Result, Ok, Err}
use Rattle.std.specs.List.{list_any}
use Rattle.hlc_stamp.specs.declared.limits.TheConstants.{MAX_CAPACITY, MAX_NODES, MIN_CAPACITY, MIN_NODES}
use Rattle.hlc_arena.specs.History.{target_of, History, StampedEvent, event_at}
use Rattle.hlc_core.specs.declared.cluster_fault.ClusterFault.{ClusterFault}
use Rattle.hlc_core.specs.declared.cluster_fault.ClusterFault.TheVariants.{BadCapacity, BadNodes, Memory}
use Rattle.hlc_core.specs.Lawful.{IsLawful}

-- the history; the live messages by the places of their sends, in sending order, as every other send has ended; and how far an event may be
-- ahead of its reading, if there is a limit
pub record State : Type 0 where
  pub history : History
  pub live : List ℕ
  pub limit : Option ℕ

abbrev pub is_target : ℕ → Option ℕ → Bool
is_target node None = false
is_target node (Some to) = to == node

-- whether the event at a place sends to a node
abbrev pub sends_to : List StampedEvent → ℕ → ℕ → Bool
sends_to events node sent = is_target node (target_of (event_at events sent).kind)

-- whether the message of a send is live
abbrev pub is_live : State → ℕ → Bool
is_live s sent = list_any (λ m. sent == m) s.live

-- the live messages addressed to a node, in sending order
abbrev pub inbox_of : State → ℕ → List ℕ
inbox_of s node = filter (sends_to s.history.events node) s.live

-- a lawful history, and live messages that are sends of it, strictly rising
pub record IsLawfulState (s : State) : Type 0 where
  pub history : IsLawful s.history
  pub sent : All (λ m. (m < length s.history.events) × IsSome (target_of (event_at s.history.events m).kind)) s.live
  pub rising : AllPairs (λ m n. m < n) s.live

-- a cluster with no event
abbrev pub new_state : ℕ → ℕ → Option ℕ → State
new_state nodes capacity limit = record { history = record { nodes = nodes; capacity = capacity; events = [] }; live = []; limit = limit }

-- why there is no cluster of these numbers, if there is none
abbrev pub new_refusal : ℕ → ℕ → Option ClusterFault
new_refusal nodes capacity =
    if nat_lt nodes MIN_NODES || nat_lt MAX_NODES nodes then Some BadNodes
    else if nat_lt capacity MIN_CAPACITY || nat_lt MAX_CAPACITY capacity then Some BadCapacity
    else None

-- why no cluster of these numbers was made: the numbers are refused, or memory was for some that are not
abbrev pub IsFaultOfNew : ℕ → ℕ → ClusterFault → Type 0
IsFaultOfNew nodes capacity fault = (new_refusal nodes capacity ≡ Some fault) ⊎ ((fault ≡ Memory) × (new_refusal nodes capacity ≡ None))

-- what came of making a cluster of these numbers: one with no event, or why there is none
abbrev pub MakesCluster : ℕ → ℕ → Option ℕ → Result State ClusterFault → Type 0
MakesCluster nodes capacity limit (Ok s) = (new_refusal nodes capacity ≡ None) × (s ≡ new_state nodes capacity limit)
MakesCluster nodes capacity limit (Err fault) = IsFaultOfNew nodes capacity fault
