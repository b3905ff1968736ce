-- The laws of seats.
use Rattle.std.specs.Prelude.{◌≡◌, ℕ, ◌<◌, List, [], Some, length, slice_get}
use Rattle.hlc_held.specs.Seats.{AreInOrder, NodeLog, fresh_seats, log_of_node, node_log}

-- fresh seats are as many as the nodes, in order, each with an empty log
pub record IsFresh (nodes : ℕ) (seats : List NodeLog) : Type 0 where
  pub count : length seats ≡ nodes
  pub order : AreInOrder nodes seats
  pub each : (node : ℕ) → node < nodes → slice_get seats node ≡ Some (node_log node [])

abbrev pub FreshSeatsAreInOrder : Type 0
FreshSeatsAreInOrder = (nodes : ℕ) → IsFresh nodes (fresh_seats nodes)

-- if seats are in order, none is missing, and the log of a node is that of the seat at its place
abbrev pub LogsAreThoseOfSeatsInOrder : Type 0
LogsAreThoseOfSeatsInOrder = (nodes : ℕ) (seats : List NodeLog) → AreInOrder nodes seats →
    (length seats ≡ nodes) × ((node : ℕ) (seat : NodeLog) → slice_get seats node ≡ Some seat → log_of_node seats node ≡ seat.log)
