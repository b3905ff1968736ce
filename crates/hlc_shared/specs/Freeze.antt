-- What comes of freezing.
use Rattle.std.specs.Prelude.{◌≡◌, ℕ, Option}
use Rattle.hlc_arena.specs.History.{History}
use Rattle.hlc_shared.specs.declared.log_fault.LogFault.{LogFault}
use Rattle.hlc_shared.specs.declared.log_fault.LogFault.TheVariants.{Memory, Mismatch}
use Rattle.hlc_held.specs.Agreement.{Agrees}
use Rattle.hlc_held.specs.Kept.{IsSoundHistory}
use Rattle.hlc_held.specs.Seats.{NodeLog}

-- nothing was frozen: the seat's log doesn't agree with a history that the lock may have kept, and the fault names the
-- seat's node, unless it was out of memory
abbrev pub IsFaultOfFreeze : (nodes capacity : ℕ) (limit : Option ℕ) → NodeLog → LogFault → Type 0
IsFaultOfFreeze nodes capacity limit seat Memory = Unit {0}
IsFaultOfFreeze nodes capacity limit seat (Mismatch node) =
    (node.0 ≡ seat.node) × (h : History) × IsSoundHistory nodes capacity limit h × ¬ Agrees h.events seat.node seat.log
