-- Seats, and the logs by node.
use Rattle.std.specs.Prelude.{◌≡◌, ◌==◌, ℕ, ◌<◌, List, [], ◌∷◌, ◌++◌, if◌then◌else◌, length, map, slice_index_or}
use Rattle.std.specs.List.{range_with_len}
use Rattle.std.specs.declared.alloc.Global.{Global}
use Rattle.std.specs.declared.vec.Vec.{Vec}
use Rattle.hlc_held.specs.declared.logged.Logged.{Logged}
use Rattle.hlc_held.specs.LogEntry.{LogEntry, events_named, log_of}

-- a node, and what it was asked and answered
pub record NodeLog : Type 0 where
  pub node : ℕ
  pub log : List LogEntry

abbrev pub node_log : ℕ → List LogEntry → NodeLog
node_log node log = record { node = node; log = log }

-- a seat after one more entry of its log
abbrev pub with_entry : NodeLog → LogEntry → NodeLog
with_entry seat entry = node_log seat.node (seat.log ++ entry ∷ [])

-- how many accepted requests a log has
abbrev pub act_count : List LogEntry → ℕ
act_count log = length (events_named log)

-- what is true of every seat: its node is one of the group's, and its share is one part, whose amount is the number of
-- accepted requests in its log
pub record IsSeat (nodes parts amount : ℕ) (seat : NodeLog) : Type 0 where
  pub node : seat.node < nodes
  pub part : parts ≡ 1
  pub counted : amount ≡ act_count seat.log

-- a seat for each node, in order, with empty logs
abbrev pub fresh_seats : ℕ → List NodeLog
fresh_seats nodes = map (λ node. node_log node []) (range_with_len 0 nodes)

-- the seats are one for each node, in order
abbrev pub AreInOrder : ℕ → List NodeLog → Type 0
AreInOrder nodes seats = map (λ seat. seat.node) seats ≡ range_with_len 0 nodes

-- the log of the last of some seats that is the node's, or else this log
abbrev pub log_of_last : ℕ → List NodeLog → List LogEntry → List LogEntry
log_of_last node [] log = log
log_of_last node (seat ∷ seats) log = log_of_last node seats (if seat.node == node then seat.log else log)

-- the log of a node, empty if its seat is missing
abbrev pub log_of_node : List NodeLog → ℕ → List LogEntry
log_of_node seats node = log_of_last node seats []

-- the log at a node's place, and none past the end
abbrev pub log_at : List (Vec Logged Global) → ℕ → List LogEntry
log_at logs node = slice_index_or (map (λ (log : Vec Logged Global). log_of log.items) logs) node []
