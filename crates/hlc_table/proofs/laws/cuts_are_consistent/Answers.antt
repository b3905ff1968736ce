use Rattle.hlc_table.proofs.Cuts as lemmas
use Rattle.hlc_table.proofs.laws.cuts_are_consistent.Goals as goal

pub returns : goal.returns
returns c = lemmas.cuts_are_consistent
