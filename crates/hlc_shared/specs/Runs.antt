-- What comes of running replicas.
use Rattle.std.specs.Prelude.{ℕ, ◌<◌, Bool, true, false, List, Option}
use Rattle.hlc_core.specs.Timed.{TimedRequest}
use Rattle.hlc_shared.specs.declared.log_fault.LogFault.TheVariants as log
use Rattle.hlc_shared.specs.declared.shared_fault.SharedFault.{SharedFault}
use Rattle.hlc_shared.specs.declared.shared_fault.SharedFault.TheVariants.{GateShut, Memory, Mismatch}
use Rattle.hlc_held.specs.Seats.{NodeLog, log_of_node}
use Rattle.hlc_shared.specs.Close.{IsFaultOfClose}
use Rattle.hlc_shared.specs.Replicas.{EachHasFollowed}

-- a gate let each of these nodes in
abbrev pub LetsAllIn : (ℕ → Bool → Type 0) → ℕ → Type 0
LetsAllIn may_answer nodes = (node : ℕ) → node < nodes → may_answer node true

-- the first node that a gate shut out
pub record IsFirstShut (may_answer : ℕ → Bool → Type 0) (nodes node : ℕ) : Type 0 where
  pub exists : node < nodes
  pub shut : may_answer node false
  pub first : LetsAllIn may_answer node

-- replicas didn't all run, or nothing was closed: the fault names the first node that the gate shut out, or it is that of
-- closing with the seats after each replica followed its list, unless it was out of memory
abbrev pub IsFaultOfRun : (ℕ → Bool → Type 0) → (nodes capacity : ℕ) (limit : Option ℕ) → List (List TimedRequest) → List NodeLog → SharedFault → Type 0
IsFaultOfRun may_answer nodes capacity limit lists seats (Mismatch node) =
    (after : List NodeLog) × LetsAllIn may_answer nodes × EachHasFollowed lists seats (log_of_node after)
    × IsFaultOfClose nodes capacity limit after (log.Mismatch node)
IsFaultOfRun may_answer nodes capacity limit lists seats (GateShut node) = IsFirstShut may_answer nodes node.0
IsFaultOfRun may_answer nodes capacity limit lists seats Memory = Unit {0}
