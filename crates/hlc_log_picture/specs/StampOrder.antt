-- Logs in the order of their least stamps.
use Rattle.std.specs.Prelude.{◌≡◌, ℕ, ◌<◌, List, length, slice_index_or}
use Rattle.hlc_stamp.specs.Order.{IsOutranked, zero_pair}
use Rattle.hlc_stamp.specs.declared.rank.Rank.{Rank}
use Rattle.hlc_causality.specs.Assignment.{pair_at}
use Rattle.hlc_log.specs.CausalOrder.{place_at}
use Rattle.hlc_ordered_log.specs.InOrder.{LogInOrder, event_in_order}
use Rattle.hlc_log_picture.specs.declared.stamp_order.Row.{Row}

-- what the event at a position stands by: its least stamp, and then its node
abbrev pub rank_at : LogInOrder → ℕ → Rank
rank_at log k = record { stamp = pair_at log.least k; node = (event_in_order log.events log.order k).node }

-- each event comes before those with a greater least stamp and, if the stamps are equal, before those with a greater node
abbrev pub IsInStampOrder : LogInOrder → Type 0
IsInStampOrder log = (j k : ℕ) → j < k → k < length log.events → IsOutranked (rank_at log j) (rank_at log k)

-- the events of a log at these places stand so, by the stamps that the log has in its own order
abbrev pub AreRanked : LogInOrder → (places : List ℕ) → Type 0
AreRanked log places =
    (j k p q : ℕ) → j < k → k < length places → p < length log.order → q < length log.order →
    place_at log.order p ≡ place_at places j → place_at log.order q ≡ place_at places k → IsOutranked (rank_at log p) (rank_at log q)

-- the row of the event at k
pub record IsRow (log : LogInOrder) (k : ℕ) (row : Row) : Type 0 where
  pub rank : row.rank ≡ rank_at log k
  pub place : row.place.0 ≡ place_at log.order k

abbrev pub row_at : List Row → ℕ → Row
row_at rows k = slice_index_or rows k (record { rank = record { stamp = zero_pair; node = record { 0 = 0 } }; place = record { 0 = 0 } })

-- the rows of the first n events
pub record AreRows (log : LogInOrder) (n : ℕ) (rows : List Row) : Type 0 where
  pub one_each : length rows ≡ n
  pub each : (k : ℕ) → k < n → IsRow log k (row_at rows k)
