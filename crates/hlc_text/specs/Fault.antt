-- Why a run does not begin, or ends before its script does.
use Rattle.std.specs.Prelude.{◌≡◌, Result, Ok, Err}
use Rattle.hlc_core.specs.declared.cluster_fault.ClusterFault.{ClusterFault}
use Rattle.hlc_core.specs.declared.cluster_fault.ClusterFault.TheVariants as cluster
use Rattle.hlc_csv.specs.Fault.{records_fault_of}
use Rattle.hlc_csv.specs.declared.end.End.{End}
use Rattle.hlc_csv.specs.declared.end.End.TheVariants.{NoRecordLeft, PastLimit, ReadFailed}
use Rattle.hlc_csv.specs.declared.output_fault.OutputFault.{OutputFault}
use Rattle.hlc_csv.specs.declared.read_fault.ReadFault.{ReadFault}
use Rattle.hlc_csv.specs.declared.records_fault.RecordsFault.TheVariants as records
use Rattle.hlc_text.specs.declared.text_fault.TextFault.{TextFault}
use Rattle.hlc_text.specs.declared.text_fault.TextFault.TheVariants as fault

-- why there is no cluster, as a fault of a run
abbrev pub settings_fault_of : ClusterFault → TextFault
settings_fault_of cluster.BadNodes = fault.Settings
settings_fault_of cluster.BadCapacity = fault.Settings
settings_fault_of cluster.Memory = fault.Records records.Memory

-- whether all records were read, or why not
abbrev pub all_read : End → Result (Unit {0}) TextFault
all_read NoRecordLeft = Ok tt
all_read (ReadFailed _) = Err (fault.Records records.Read)
all_read PastLimit = Err (fault.Records records.TooLong)

-- a run's fault is this end of its reading, after which the rows were handed out, unless the writer or memory failed
abbrev pub EndsEarly : TextFault → End → (sent : Type 0) → Type 0
EndsEarly (fault.Records records.Read) end sent = ((cause : ReadFault) × (end ≡ ReadFailed cause)) × sent
EndsEarly (fault.Records records.TooLong) end sent = (end ≡ PastLimit) × sent
EndsEarly (fault.Records records.Write) end sent = Unit
EndsEarly (fault.Records records.Memory) end sent = Unit
EndsEarly fault.Settings end sent = ⊥

-- the rows were handed out after all records were read, or the fault says why not; if the reading itself came to no end, its cause is the fault
abbrev pub HandsOut : {T : Type 0} → Result T TextFault → Result End OutputFault → (sent : Type 0) → Type 0
HandsOut (Ok _) (Ok end) sent = (end ≡ NoRecordLeft) × sent
HandsOut (Ok _) (Err _) sent = ⊥
HandsOut (Err told) (Ok end) sent = EndsEarly told end sent
HandsOut (Err told) (Err cause) sent = told ≡ fault.Records (records_fault_of cause)
