use Rattle.std.proofs.Common.{◌≡◌, List, ap, subst}
use Rattle.std.proofs.lemmas.Result.{on_ok_weaker}
use Rattle.hlc_arena.specs.History.{History, StampedEvent}
use Rattle.hlc_held.specs.Agreement.{Agrees}
use Rattle.hlc_held.specs.LogEntry.{LogEntry, log_of}
use Rattle.hlc_shared.proofs.shared.compare_seat.Goals as goal

pub returns-clause-agrees : goal.returns-clause-agrees
returns-clause-agrees g c =
    let events : c.history.result.now.events ≡ c.args.frozen.now.events = ap (λ (h : History). h.events) c.history.ensures.history in
    on_ok_weaker c.compare_log.result (λ agrees.
    subst (λ (es : List StampedEvent). Agrees es c.args.seat.now.node c.args.seat.now.log) events
    (subst (λ (log : List LogEntry). Agrees c.history.result.now.events c.args.seat.now.node log) c.log.ensures
    (subst (λ n. Agrees c.history.result.now.events n (log_of c.log.result.now)) c.node.ensures.node agrees))) c.compare_log.ensures.agrees
