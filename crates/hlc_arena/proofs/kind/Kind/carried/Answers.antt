use Rattle.hlc_arena.proofs.kind.Kind.carried.Goals as goal

pub returns-in-Sync : goal.returns-in-Sync
returns-in-Sync c = rw c.in-Sync.is cc
