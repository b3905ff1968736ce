use Rattle.hlc_ordered_log.proofs.Rearranged.{counts_agree, messages_agree, rearranged_logs_tell_the_same, unit_factors_agree}
use Rattle.hlc_ordered_log.proofs.laws.rearranged_logs_agree.Goals as goal

pub returns : goal.returns
returns c = record {
  same = rearranged_logs_tell_the_same;
  counts = counts_agree;
  messages = messages_agree;
  units = unit_factors_agree;
}
