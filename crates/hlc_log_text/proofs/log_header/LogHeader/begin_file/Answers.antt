use Rattle.std.proofs.Common.{None, refl, true}
use Rattle.hlc_log_text.proofs.HeaderFacts.{begun_by}
use Rattle.hlc_log_text.proofs.log_header.LogHeader.begin_file.Goals as goal

pub returns : goal.returns
returns c items name = begun_by items name (record { at_start = true; columns = None }) refl refl
