use Rattle.std.proofs.Common.{◌≡◌, ℕ, ◌<◌, length}
use Rattle.std.specs.Prelude.{slice_index_or}
use Rattle.hlc_stamp.specs.Ids.{places_of}
use Rattle.hlc_log.specs.CausalOrder.{place_at}
use Rattle.hlc_ordered_log.proofs.ordered_log.positions_in.Given as goal

-- the positions of the events before this one are kept
abbrev pub invariant-loop-position : goal.invariant-loop-position
invariant-loop-position l = record {
  one_each : length l.positions.items ≡ l.events;
  each : (k : ℕ) → k < l.position → (slice_index_or l.positions.items (place_at (places_of l.order) k) (record { 0 = 0 })).0 ≡ k;
}
