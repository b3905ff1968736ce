-- The numbers of events.
use Rattle.std.specs.Prelude.{◌==◌, ℕ, Bool, List, map}
use Rattle.std.specs.List.{list_any}
use Rattle.hlc_stamp.specs.declared.id.EventId.{EventId}

-- the places of some events
abbrev pub places_of : List EventId → List ℕ
places_of list = map (λ id. id.0) list

-- whether a place is one of some
abbrev pub is_among : List ℕ → ℕ → Bool
is_among places e = list_any (λ place. e == place) places
