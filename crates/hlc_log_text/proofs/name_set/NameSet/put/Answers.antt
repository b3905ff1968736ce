use Rattle.std.proofs.lemmas.Map.Made.{AllPairs-from_IsDistinct}
use Rattle.std.proofs.lemmas.Slice.Eq.{bytes_eq-Decides}
use Rattle.hlc_log_text.proofs.name_set.NameSet.put.Goals as goal

pub invariant_of-self-2 : goal.invariant_of-self-2
invariant_of-self-2 c = AllPairs-from_IsDistinct bytes_eq-Decides c.insert_full.new.self.keys c.insert_full.ensures.unique
