use Rattle.hlc_explain.proofs.Origins as lemmas
use Rattle.hlc_explain.proofs.laws.origins_begin_chains.Goals as goal

pub returns : goal.returns
returns c = lemmas.origins_begin_chains
