use Rattle.std.proofs.Common.{arith}
use Rattle.hlc_core.proofs.Messages.{inbox_in_state}
use Rattle.hlc_core.proofs.cluster.Cluster.inbox.Goals as goal

pub returns-clause-messages : goal.returns-clause-messages
returns-clause-messages c =
    let own = inbox_in_state c.self.invariant c.self.view_is c.args.node.0 in
    grind (arith, c.inbox.ensures.all, own)
