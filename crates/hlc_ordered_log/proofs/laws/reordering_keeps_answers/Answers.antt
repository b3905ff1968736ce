use Rattle.hlc_ordered_log.proofs.ReorderedTraces as lemmas
use Rattle.hlc_ordered_log.proofs.laws.reordering_keeps_answers.Goals as goal

pub returns : goal.returns
returns c = record {
  verdicts = lemmas.reordering_keeps_verdicts;
  findings = lemmas.reordering_keeps_findings;
  causes = lemmas.reordering_keeps_causes;
}
