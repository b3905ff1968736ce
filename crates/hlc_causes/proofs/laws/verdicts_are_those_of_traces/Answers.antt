use Rattle.hlc_causes.proofs.OnTraces as lemmas
use Rattle.hlc_causes.proofs.laws.verdicts_are_those_of_traces.Goals as goal

pub returns : goal.returns
returns c = lemmas.verdicts_are_those_of_traces
