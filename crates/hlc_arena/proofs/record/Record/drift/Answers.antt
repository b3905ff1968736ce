use Rattle.hlc_arena.proofs.record.Record.drift.Goals as goal

pub returns : goal.returns
returns c = c.saturating_sub.ensures
