-- Skew: how far one node's clock is ahead of another's, as the messages between them show it.
use Rattle.std.specs.Prelude.{◌≡◌, ◌≢◌, ℕ, Bool, true, false, ◌+◌, ◌<◌, ◌≤◌, Option, Some, None, List, length, nat_lt}
use Rattle.std.specs.BTreeMap.{is_at}
use Rattle.std.specs.List.Sorted.{IsStrictlySortedBy}
use Rattle.std.specs.Map.{keys_of, lookup}
use Rattle.std.specs.Ordering.{nat_cmp, ordering_then}
use Rattle.std.specs.declared.cmp.Ordering.{Ordering}
use Rattle.hlc_stamp.specs.declared.id.EventId.{EventId}
use Rattle.hlc_causality.specs.Causality.{IsSendOf, Skeleton, skeleton_at}
use Rattle.hlc_ordered_log.specs.declared.skew.Skew.{Skew}
use Rattle.hlc_ordered_log.specs.declared.skew_nodes.SkewNodes.{SkewNodes}

-- f delivers what e sends, and at both it is told what the clock read
pub record IsToldSend (s : Skeleton) (told : ℕ → Bool) (e f : ℕ) : Type 0 where
  pub send : IsSendOf s e f
  pub told_at_send : told e ≡ true
  pub told_at_delivery : told f ≡ true

-- an answer is such a send of what f delivers, or None if there is none
abbrev pub NamesToldSend : Skeleton → (told : ℕ → Bool) → (f : ℕ) → Option EventId → Type 0
NamesToldSend s told f None = (e : ℕ) → ¬ IsToldSend s told e f
NamesToldSend s told f (Some send) = IsToldSend s told send.0 f

-- a message that shows a skew from one node to another: the second delivers at f what the first sends at e
pub record IsMessage (s : Skeleton) (told : ℕ → Bool) (from to e f : ℕ) : Type 0 where
  pub sent : IsToldSend s told e f
  pub from_node : (skeleton_at s e).node ≡ from
  pub to_node : (skeleton_at s f).node ≡ to

-- the reading of a send less that of its delivery is at most what a skew has
abbrev pub IsAtMostSkew : Skeleton → (e f : ℕ) → Skew → Type 0
IsAtMostSkew s e f skew = (skeleton_at s e).reading + skew.delivered_at ≤ skew.sent_at + (skeleton_at s f).reading

-- and less
abbrev pub IsBelowSkew : Skeleton → (e f : ℕ) → Skew → Type 0
IsBelowSkew s e f skew = (skeleton_at s e).reading + skew.delivered_at < skew.sent_at + (skeleton_at s f).reading

-- the greatest that messages from one node to another show which are delivered before n, and the first that shows it
pub record IsSkewBefore (s : Skeleton) (told : ℕ → Bool) (n from to : ℕ) (skew : Skew) : Type 0 where
  pub before : skew.delivery.0 < n
  pub message : IsMessage s told from to skew.send.0 skew.delivery.0
  pub sent_at : skew.sent_at ≡ (skeleton_at s skew.send.0).reading
  pub delivered_at : skew.delivered_at ≡ (skeleton_at s skew.delivery.0).reading
  pub none_greater : (e f : ℕ) → f < n → IsMessage s told from to e f → IsAtMostSkew s e f skew
  pub first : (e f : ℕ) → f < skew.delivery.0 → IsMessage s told from to e f → IsBelowSkew s e f skew

-- an answer is that skew, or None if no such message is from the one to the other
abbrev pub NamesSkewBefore : Skeleton → (told : ℕ → Bool) → (n from to : ℕ) → Option Skew → Type 0
NamesSkewBefore s told n from to None = (e f : ℕ) → f < n → ¬ IsMessage s told from to e f
NamesSkewBefore s told n from to (Some skew) = IsSkewBefore s told n from to skew

-- skews by their nodes
abbrev pub Skews : Type 0
Skews = List (SkewNodes × Skew)

-- the order of nodes: by the one to which messages went, then by the one from which they came
abbrev pub by_nodes : SkewNodes → SkewNodes → Ordering
by_nodes x y = ordering_then (nat_cmp x.to.0 y.to.0) (nat_cmp x.from.0 y.from.0)

-- the skew of two nodes, if it is among these
abbrev pub skew_between : Skews → SkewNodes → Option Skew
skew_between skews nodes = lookup (is_at (by_nodes nodes)) skews

-- in the order of their nodes, the skews that messages show which are delivered before n: of any two nodes that from the one to the other, if there
-- is one
pub record AreSkewsBefore (s : Skeleton) (told : ℕ → Bool) (n : ℕ) (skews : Skews) : Type 0 where
  pub sorted : IsStrictlySortedBy by_nodes (keys_of skews)
  pub each : (nodes : SkewNodes) → NamesSkewBefore s told n nodes.from.0 nodes.to.0 (skew_between skews nodes)

-- the same of all messages
abbrev pub AreSkews : Skeleton → (told : ℕ → Bool) → Skews → Type 0
AreSkews s told skews = AreSkewsBefore s told (length s) skews

-- whether a skew is greater than the greatest before it, if there is one
abbrev pub is_greater : Skew → Option Skew → Bool
is_greater skew None = true
is_greater skew (Some first) = nat_lt (first.sent_at + skew.delivered_at) (skew.sent_at + first.delivered_at)

-- of two nodes the greater skew is kept now, the first if they are equal; others are as they were
pub record TakesSkew (before after : Skews) (nodes : SkewNodes) (skew : Skew) : Type 0 where
  pub sorted : IsStrictlySortedBy by_nodes (keys_of before) → IsStrictlySortedBy by_nodes (keys_of after)
  pub greater : is_greater skew (skew_between before nodes) ≡ true → skew_between after nodes ≡ Some skew
  pub first : is_greater skew (skew_between before nodes) ≡ false → skew_between after nodes ≡ skew_between before nodes
  pub others : (other : SkewNodes) → other ≢ nodes → skew_between after other ≡ skew_between before other
