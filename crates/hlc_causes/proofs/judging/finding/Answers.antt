use Rattle.std.proofs.Common.{◌∙◌, ap, refl, sym}
use Rattle.hlc_stamp.specs.Order.{Pair}
use Rattle.hlc_causality.specs.ReceiveEvents.{clock_events}
use Rattle.hlc_verdict.specs.declared.verdict.Verdict.TheVariants.{Ahead}
use Rattle.hlc_causes.proofs.CauseLaws.{ahead_of_least}
use Rattle.hlc_causes.proofs.judging.finding.Goals as goal

pub returns-in-Ahead : goal.returns-in-Ahead
returns-in-Ahead g c =
    let t = clock_events c.args.execution.now.rules c.args.execution.now.events in
    let claimed = g.C.Claims.claimed c.args.claims.now in
    let least = c.args.execution.now.stamps in
    let f = c.args.event.0 in
    let is = c.in-Ahead.ensures in
    record {
      rolls_over = c.if-rolls_over.ensures.0 refl;
      ahead = sym is ∙ ap (λ (p : Pair). Ahead p) (ahead_of_least t claimed least f c.in-Ahead.field-0 is);
    }
