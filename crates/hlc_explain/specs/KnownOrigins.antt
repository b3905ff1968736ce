-- What is known of the origins of the first events of an execution.
use Rattle.std.specs.Prelude.{◌≡◌, ℕ, ◌⊎◌, List, slice_index_or}
use Rattle.hlc_stamp.specs.declared.id.EventId.{EventId}
use Rattle.hlc_stamp.specs.Order.{Pair}
use Rattle.hlc_causality.specs.Causality.{Skeleton}
use Rattle.hlc_explain.specs.Summaries.{origin_of}

-- the mark of the event at e, or the event itself if there is none
abbrev pub known_at : List EventId → ℕ → ℕ
known_at origins e = (slice_index_or origins e (record { 0 = e })).0

-- each mark is its own event, or the origin of that
abbrev pub AreKnownOrigins : Skeleton → List Pair → List EventId → Type 0
AreKnownOrigins s pairs origins = (e : ℕ) → (known_at origins e ≡ e) ⊎ (known_at origins e ≡ origin_of s pairs e)
