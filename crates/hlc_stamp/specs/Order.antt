-- Pairs and their order, the order of stamps and of ranks.
use Rattle.std.specs.Prelude.{◌≡◌, ◌<◌, ◌≤◌, ◌⊎◌, ◌↔◌, IsTrue}
use Rattle.std.specs.declared.cmp.Ordering.{Ordering}
use Rattle.std.specs.Ordering.{is_lt, nat_cmp, ordering_then}
use Rattle.hlc_stamp.specs.declared.stamp.Stamp.{Stamp}
use Rattle.hlc_stamp.specs.declared.rank.Rank.{Rank}

-- two natural numbers without bound; a stamp is the pair of its numbers
abbrev pub Pair : Type 0
Pair = Stamp

-- p comes before q in dictionary order
abbrev pub IsBelow : Pair → Pair → Type 0
IsBelow p q = (p.l < q.l) ⊎ ((p.l ≡ q.l) × (p.c < q.c))

-- p is q, or comes before it
abbrev pub IsAtMost : Pair → Pair → Type 0
IsAtMost p q = (p.l < q.l) ⊎ ((p.l ≡ q.l) × (p.c ≤ q.c))

-- the pair before every other
abbrev pub zero_pair : Pair
zero_pair = record { l = 0; c = 0 }

-- a rank loses to another: its stamp comes first or, if the stamps are equal, its node does
abbrev pub IsOutranked : Rank → Rank → Type 0
IsOutranked a b = IsBelow a.stamp b.stamp ⊎ ((a.stamp ≡ b.stamp) × (a.node.0 < b.node.0))

-- the order of stamps as a test: by l, then by c
abbrev pub stamp_cmp : Stamp → Stamp → Ordering
stamp_cmp p q = ordering_then (nat_cmp p.l q.l) (nat_cmp p.c q.c)

-- the order of ranks as a test: by the stamp, then by the node
abbrev pub rank_cmp : Rank → Rank → Ordering
rank_cmp a b = ordering_then (stamp_cmp a.stamp b.stamp) (nat_cmp a.node.0 b.node.0)

-- the test of stamps is their order
abbrev pub StampsAreCompared : Type 0
StampsAreCompared = (p q : Stamp) → IsTrue (is_lt (stamp_cmp p q)) ↔ IsBelow p q

-- the test of ranks is their order
abbrev pub RanksAreCompared : Type 0
RanksAreCompared = (a b : Rank) → IsTrue (is_lt (rank_cmp a b)) ↔ IsOutranked a b
