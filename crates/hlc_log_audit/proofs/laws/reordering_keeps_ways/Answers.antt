use Rattle.hlc_log_audit.proofs.ReorderedAnswers.{reordering_keeps_ways, ways_agree}
use Rattle.hlc_log_audit.proofs.laws.reordering_keeps_ways.Goals as goal

pub returns : goal.returns
returns c = record {
  ways = reordering_keeps_ways;
  logs = ways_agree;
}
