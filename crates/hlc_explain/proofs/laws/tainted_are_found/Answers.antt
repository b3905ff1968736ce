use Rattle.hlc_explain.proofs.Raising as lemmas
use Rattle.hlc_explain.proofs.laws.tainted_are_found.Goals as goal

pub returns-clause-tainted : goal.returns-clause-tainted
returns-clause-tainted c = lemmas.tainted_are_found

pub returns-clause-influenced : goal.returns-clause-influenced
returns-clause-influenced c = lemmas.tainted_are_influenced
