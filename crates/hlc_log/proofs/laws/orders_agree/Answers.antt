use Rattle.hlc_log.proofs.Agreement.{causal_orders_agree, reordered_logs_agree}
use Rattle.hlc_log.proofs.laws.orders_agree.Goals as goal

pub returns : goal.returns
returns c = record {
  orders = causal_orders_agree;
  logs = reordered_logs_agree;
}
