use Rattle.hlc_text.proofs.ExportFacts.{HasExported}
use Rattle.hlc_text.proofs.history.export.Given as goal

abbrev pub invariant-loop-event : goal.invariant-loop-event
invariant-loop-event g l = HasExported l.history.events l.event (g.W.Write.contents l.fn.writer) (g.W.Write.contents l.writer) l.rows
