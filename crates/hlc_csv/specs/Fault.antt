-- Faults.
use Rattle.std.specs.Prelude.{ℕ, List, codes}
use Rattle.hlc_csv.specs.declared.output_fault.OutputFault.{OutputFault}
use Rattle.hlc_csv.specs.declared.output_fault.OutputFault.TheVariants as output
use Rattle.hlc_csv.specs.declared.records_fault.RecordsFault.{RecordsFault}
use Rattle.hlc_csv.specs.declared.records_fault.RecordsFault.TheVariants as records

-- a fault of the output, as one of a run over records
abbrev pub records_fault_of : OutputFault → RecordsFault
records_fault_of output.Write = records.Write
records_fault_of output.Memory = records.Memory

-- what a fault of the output says
abbrev pub output_fault_text : OutputFault → List ℕ
output_fault_text output.Write = codes "writing failed"
output_fault_text output.Memory = codes "out of memory"

-- what a fault of a run over records says
abbrev pub records_fault_text : RecordsFault → List ℕ
records_fault_text records.Read = codes "reading failed"
records_fault_text records.Write = codes "writing failed"
records_fault_text records.TooLong = codes "too many records"
records_fault_text records.Memory = codes "out of memory"
