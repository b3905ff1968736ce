-- Why a run of replicas gives nothing back.
use Rattle.hlc_shared.specs.declared.fate.Fate.{Fate}
use Rattle.hlc_shared.specs.declared.fate.Fate.TheVariants as fate
use Rattle.hlc_shared.specs.declared.log_fault.LogFault.{LogFault}
use Rattle.hlc_shared.specs.declared.log_fault.LogFault.TheVariants as log
use Rattle.hlc_shared.specs.declared.shared_fault.SharedFault.{SharedFault}
use Rattle.hlc_shared.specs.declared.shared_fault.SharedFault.TheVariants.{GateShut, Memory, Mismatch}

-- the fault of closing, as one of the run
abbrev pub fault_of_logs : LogFault → SharedFault
fault_of_logs (log.Mismatch node) = Mismatch node
fault_of_logs log.Memory = Memory

-- the fate of the jobs, as a fault of the run
abbrev pub fault_of_fate : Fate → SharedFault
fault_of_fate (fate.Shut node) = GateShut node
fault_of_fate fate.Memory = Memory
