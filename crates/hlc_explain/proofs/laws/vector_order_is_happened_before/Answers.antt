use Rattle.hlc_explain.proofs.VectorLaws.{own_count_is_nodes_events, own_count_tells_the_past, vector_order_is_happened_before}
use Rattle.hlc_explain.proofs.laws.vector_order_is_happened_before.Goals as goal

pub returns-clause-order : goal.returns-clause-order
returns-clause-order c = vector_order_is_happened_before

pub returns-clause-short_test : goal.returns-clause-short_test
returns-clause-short_test c = own_count_tells_the_past

pub returns-clause-own : goal.returns-clause-own
returns-clause-own c = own_count_is_nodes_events
