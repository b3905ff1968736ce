use Rattle.std.proofs.Common.{Ok, subst, sym}
use Rattle.std.specs.Prelude.{IfOk}
use Rattle.std.proofs.lemmas.Result.{IfOk-weaker}
use Rattle.csv.specs.Records.{fields_of}
use Rattle.hlc_log_text.specs.declared.log_header.RecordItem.{RecordItem}
use Rattle.hlc_watched_log.specs.Taken.{TakesItem}
use Rattle.hlc_watched_log.proofs.EventsTaken.{item_taken}
use Rattle.hlc_watched_log.proofs.watched_log.LogWatch.take_item.Goals as goal

pub returns-in-Event-clause-taken : goal.returns-in-Event-clause-taken
returns-in-Event-clause-taken g c =
    let at = g.W.Write.contents in
    let placed = fields_of c.args.placed.now in
    let old = c.args.self.now in
    let new = c.take_event.new.self in
    let before = at c.args.writer.now in
    let after = at c.take_event.new.writer in
    subst (λ (item : RecordItem). IfOk c.take_event.result (TakesItem c.args.rules.now (Ok item) placed old before after new)) (sym c.in-Event.is)
    (IfOk-weaker c.take_event.result _ _ (λ found takes.
    item_taken c.args.rules.now c.in-Event.head c.in-Event.extras placed old before after new found takes) c.take_event.ensures.taken)
