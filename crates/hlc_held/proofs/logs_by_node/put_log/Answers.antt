use Rattle.hlc_held.proofs.LogFacts.{log_at-set}
use Rattle.hlc_held.proofs.logs_by_node.put_log.Goals as goal

pub returns-clause-put : goal.returns-clause-put
returns-clause-put c = λ n. log_at-set n c.args.node.0 c.args.logs.now.items c.args.log (search Rattle.std.proofs.Common.rules)
