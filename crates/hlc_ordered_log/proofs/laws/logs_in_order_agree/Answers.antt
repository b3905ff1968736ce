use Rattle.hlc_ordered_log.proofs.ReorderedTraces.{logs_are_reordered_traces}
use Rattle.hlc_ordered_log.proofs.SeenTraces as lemmas
use Rattle.hlc_ordered_log.proofs.Swaps.{swaps_agree}
use Rattle.hlc_ordered_log.proofs.laws.logs_in_order_agree.Goals as goal

pub returns : goal.returns
returns c = record {
  reordered = logs_are_reordered_traces;
  findings = lemmas.findings_agree;
  causes = lemmas.causes_agree;
  swaps = swaps_agree;
  wrong = lemmas.wrong_agrees;
}
