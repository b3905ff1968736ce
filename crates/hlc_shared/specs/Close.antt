-- What comes of closing.
use Rattle.std.specs.Prelude.{◌≡◌, ℕ, ◌<◌, List, Option, length, sum_by}
use Rattle.hlc_arena.specs.History.{History, StampedEvent}
use Rattle.hlc_shared.specs.declared.log_fault.LogFault.{LogFault}
use Rattle.hlc_shared.specs.declared.log_fault.LogFault.TheVariants.{Memory, Mismatch}
use Rattle.hlc_held.specs.Agreement.{Agrees}
use Rattle.hlc_held.specs.Kept.{IsSoundHistory}
use Rattle.hlc_held.specs.LogEntry.{LogEntry}
use Rattle.hlc_held.specs.Seats.{NodeLog, act_count, log_of_node}

-- a history that a lock kept when these seats were given back: it is lawful, its stamps are least, it is of so many nodes and
-- this capacity, its drifts are within the limit, if there is one, and if no seat is missing, it has as many events as their logs name
pub record IsKeptHistory (nodes capacity : ℕ) (limit : Option ℕ) (seats : List NodeLog) (h : History) : Type 0 where
  pub sound : IsSoundHistory nodes capacity limit h
  pub counted : length seats ≡ nodes → length h.events ≡ sum_by (λ seat. act_count seat.log) seats

-- the log of each node agrees with a history
abbrev pub EachAgrees : List StampedEvent → ℕ → (ℕ → List LogEntry) → Type 0
EachAgrees events nodes log = (node : ℕ) → node < nodes → Agrees events node (log node)

-- the first node whose log doesn't agree with a history
pub record IsFirstMismatch (events : List StampedEvent) (nodes : ℕ) (log : ℕ → List LogEntry) (node : ℕ) : Type 0 where
  pub exists : node < nodes
  pub differs : ¬ Agrees events node (log node)
  pub first : EachAgrees events node log

-- a node's log doesn't agree with a history: the fault names the node, unless it was out of memory
abbrev pub IsFaultOfLog : List StampedEvent → ℕ → List LogEntry → LogFault → Type 0
IsFaultOfLog events node log Memory = Unit {0}
IsFaultOfLog events node log (Mismatch named) = (named.0 ≡ node) × ¬ Agrees events node log

-- logs don't all agree: the fault names the first node whose log doesn't, unless it was out of memory
abbrev pub IsFaultOfLogs : List StampedEvent → ℕ → (ℕ → List LogEntry) → LogFault → Type 0
IsFaultOfLogs events nodes log Memory = Unit {0}
IsFaultOfLogs events nodes log (Mismatch node) = IsFirstMismatch events nodes log node.0

-- nothing was closed: the log of a seat doesn't agree with the history that was kept, and the fault names the first such
-- node, unless it was out of memory
abbrev pub IsFaultOfClose : (nodes capacity : ℕ) (limit : Option ℕ) → List NodeLog → LogFault → Type 0
IsFaultOfClose nodes capacity limit seats Memory = Unit {0}
IsFaultOfClose nodes capacity limit seats (Mismatch node) =
    (h : History) × IsKeptHistory nodes capacity limit seats h × IsFirstMismatch h.events nodes (log_of_node seats) node.0
