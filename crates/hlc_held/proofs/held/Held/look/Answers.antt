use Rattle.std.proofs.Common.{◌≡◌, ap}
use Rattle.hlc_arena.specs.History.{History, event_at}
use Rattle.hlc_arena.specs.Known.{value_of}
use Rattle.hlc_table.specs.Tables.{table_rows}
use Rattle.hlc_held.specs.LogEntry.{sight_of}
use Rattle.hlc_held.proofs.SightFacts.{sight_of_key-found, sight_of_key-missing}
use Rattle.hlc_held.proofs.held.Held.look.Goals as goal

pub returns-in_ok-of-in-Some : goal.returns-in_ok-of-in-Some
returns-in_ok-of-in-Some g c =
    let events = c.self.inside.cluster.history.events in
    let rows : c.unwrap-table.result.now ≡ table_rows events c.args.node.0 = rw c.unwrap-table.ensures at c.table.ensures.rows in
    let seen : sight_of c.in_ok-of-in-Some.field-0
    ≡ record { entry = c.in-Some.entry; value = value_of (event_at events c.in-Some.entry.write.0).kind } =
    rw (ap (λ (h : History). h.events) c.history.ensures.history) at c.in_ok-of-in-Some.ensures in
    rw (← c.self.view_is) (sight_of_key-found events c.args.node.0 c.args.key.now c.unwrap-table.result.now c.in-Some.entry (sight_of c.in_ok-of-in-Some.field-0) rows c.in-Some.ensures.entry seen)

pub returns-in-None : goal.returns-in-None
returns-in-None g c =
    let events = c.self.inside.cluster.history.events in
    let rows : c.unwrap-table.result.now ≡ table_rows events c.args.node.0 = rw c.unwrap-table.ensures at c.table.ensures.rows in
    rw (← c.self.view_is) (sight_of_key-missing events c.args.node.0 c.args.key.now c.unwrap-table.result.now rows c.in-None.ensures.entry)
