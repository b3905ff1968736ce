use Rattle.hlc_table.proofs.Greatest.{greatest_rank_wins}
use Rattle.hlc_table.proofs.KeyOrder.{keys_in_first_learnt_order, no_key_twice}
use Rattle.hlc_table.proofs.laws.greatest_rank_wins.Goals as goal

pub returns : goal.returns
returns c = record { greatest = greatest_rank_wins; order = keys_in_first_learnt_order; once = no_key_twice }
