use Rattle.std.proofs.Common.{◌∙◌, sym}
use Rattle.hlc_causality.specs.ReceiveEvents.{clock_events}
use Rattle.hlc_causes.proofs.LinksFound.{exists_received}
use Rattle.hlc_causes.proofs.Predecessors.{greatest_is, rolls_over_by}
use Rattle.hlc_causes.proofs.causes.rolls_over.Goals as goal

pub returns : goal.returns
returns g c =
    let rules = c.args.execution.now.rules in
    let s = c.args.execution.now.events in
    let f = c.args.event.0 in
    let exists = exists_received rules s f c.requires.exists in
    let claimed = g.C.Claims.claimed c.args.claims.now in
    let rule = c.rule_event-rule in
    let found = c.greatest_claimed-before in
    let is_before = greatest_is claimed _ _ _ _ found.result found.ensures rule.ensures.previous rule.ensures.send in
    let same = rolls_over_by (clock_events rules s) claimed f exists rule.result.ticks found.result rule.result.floor rule.ensures.ticks is_before
    rule.ensures.floor c.args.full in
    let told = c.rolls_over_after.ensures in
    let stamp = c.stamp.ensures in
    (λ yes. let parts = told.0 yes in same.0 (parts.0, sym stamp ∙ parts.1), λ rolls. let parts = same.1 rolls in told.1 (parts.0, stamp ∙ parts.1))
