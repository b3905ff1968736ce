use Rattle.hlc_core.proofs.cluster.Cluster.effect.Goals as goal

pub returns-in-Write : goal.returns-in-Write
returns-in-Write c = rw c.in-Write.is (c.write.ensures c.args.self.now c.args.node.0)

pub returns-in-Erase : goal.returns-in-Erase
returns-in-Erase c = rw c.in-Erase.is (c.erase.ensures c.args.self.now c.args.node.0)
