-- The origin, the stamp and the drift of each event.
use Rattle.std.specs.Prelude.{◌≡◌, ℕ, ◌+◌, ◌<◌, List, length, map, slice_index_or}
use Rattle.hlc_stamp.specs.Order.{Pair}
use Rattle.hlc_causality.specs.Assignment.{pair_at}
use Rattle.hlc_causality.specs.Causality.{Skeleton}
use Rattle.hlc_causality.specs.FollowedChains.{chain_of}
use Rattle.hlc_causality.specs.Forcing.{HasOrigin}
use Rattle.hlc_causality.specs.NodeEvents.{drift_at}
use Rattle.hlc_causality.specs.Places.{places_below}
use Rattle.hlc_explain.specs.declared.answers.Summary.{Summary}

-- the origin of the event at e: the first of its chain
abbrev pub origin_of : Skeleton → List Pair → ℕ → ℕ
origin_of s pairs e = slice_index_or (chain_of s pairs e) 0 e

-- the summary of the event at e
abbrev pub summary_of : Skeleton → List Pair → ℕ → Summary
summary_of s pairs e = record { origin = record { 0 = origin_of s pairs e }; stamp = pair_at pairs e; ahead = drift_at s pairs e }

-- a summary of each event, in order
abbrev pub summaries_of : Skeleton → List Pair → List Summary
summaries_of s pairs = map (summary_of s pairs) (places_below (length s))

-- and the origin there is the one that the chain of the event begins with
abbrev pub OriginsBeginChains : Type 0
OriginsBeginChains = (s : Skeleton) (pairs : List Pair) (e : ℕ) → e < length s → HasOrigin s pairs e (origin_of s pairs e)

-- a list has the summaries of the events from first on, in order
abbrev pub AreSummariesFrom : Skeleton → List Pair → ℕ → List Summary → Type 0
AreSummariesFrom s pairs first list = (k : ℕ) (other : Summary) → k < length list → slice_index_or list k other ≡ summary_of s pairs (first + k)
