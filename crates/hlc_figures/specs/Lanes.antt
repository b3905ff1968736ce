-- The lanes of a picture.
use Rattle.std.specs.Prelude.{ℕ, ◌^◌, ◌<◌, List, count_by, filter, if◌then◌else◌, length, map, nat_lt}
use Rattle.std.specs.List.Sorted.{IsStrictlyIncreasing}
use Rattle.hlc_stamp.specs.Ids.{is_among}
use Rattle.hlc_causality.specs.Places.{places_below}
use Rattle.hlc_figures.specs.Content.{Content, node_at}

-- the lanes of a picture that draws some events: those of the nodes at which these happen or, if every node has one, of all; in order
abbrev pub lanes_of : Content → (places : List ℕ) → List ℕ
lanes_of c places =
    if c.every_lane then places_below c.nodes else filter (λ node. is_among (map (node_at c) places) node) (places_below c.nodes)

-- the lane of a node: as many stand before it as nodes before it have one
abbrev pub lane_of : (lanes : List ℕ) → (node : ℕ) → ℕ
lane_of lanes node = count_by (λ other. nat_lt other node) lanes

-- the lane on which an event stands
abbrev pub lane_at : Content → (lanes : List ℕ) → ℕ → ℕ
lane_at c lanes e = lane_of lanes (node_at c e)

-- lanes stand in order, one for a node, and are few enough to have numbers
pub record AreInOrder (lanes : List ℕ) : Type 0 where
  pub rising : IsStrictlyIncreasing lanes
  pub few : length lanes < 2 ^ 16
