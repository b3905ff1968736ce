-- Ends of a reading.
use Rattle.std.proofs.Common.{◌≡◌, Result, Ok, refl, sym, subst}
use Rattle.hlc_csv.specs.declared.end.End.{End}
use Rattle.hlc_csv.specs.declared.end.End.TheVariants.{NoRecordLeft, PastLimit, ReadFailed}
use Rattle.hlc_text.specs.Fault.{HandsOut, all_read}
use Rattle.hlc_text.specs.declared.text_fault.TextFault.{TextFault}

handed_out-so : (end : End) (sent : Type 0) → sent → HandsOut (all_read end) (Ok end) sent
handed_out-so NoRecordLeft sent h = (refl, h)
handed_out-so (ReadFailed cause) sent h = ((cause, refl), h)
handed_out-so PastLimit sent h = (refl, h)

-- rows that were handed out after a reading that ended so
pub handed_out : (end : End) (sent : Type 0) (read : Result (Unit {0}) TextFault) → read ≡ all_read end → sent → HandsOut read (Ok end) sent
handed_out end sent read is h = subst (λ (r : Result (Unit {0}) TextFault). HandsOut r (Ok end) sent) (sym is) (handed_out-so end sent h)
