use Rattle.std.proofs.Common.{arith, ap}
use Rattle.std.proofs.lemmas.Bool.Decides.{nat_tests}
use Rattle.hlc_arena.specs.Kinds.{event_kind_of}
use Rattle.hlc_table.proofs.Repeats.{repeat_by_first}
use Rattle.hlc_table.proofs.repeat.is_repeat.Goals as goal

pub returns-in-Some : goal.returns-in-Some
returns-in-Some c =
    let by_first = repeat_by_first c.args.history.now.events c.args.event.0 c.in-Deliver.sent.0 c.in-Some.first.0 c.next.new.self
    c.deliveries.result (event_kind_of c.args.kind) (ap event_kind_of c.in-Deliver.is) c.in-Some.ensures.steps
    c.deliveries.ensures.complete c.deliveries.ensures.rising in
    grind (arith, nat_tests, by_first)
