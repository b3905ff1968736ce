use Rattle.std.proofs.Common.{◌≡◌, ◌∙◌, ◌+◌, Some, ap, subst, sym}
use Rattle.std.specs.Prelude.{slice_set}
use Rattle.hlc_log.specs.Events.{event_at}
use Rattle.hlc_log_audit.specs.OverLimit.{AreOversBefore, claimed_ahead}
use Rattle.hlc_log_audit.specs.declared.over.Over.{Over}
use Rattle.hlc_log_audit.proofs.OverLimits.{overs_with, overs_without}
use Rattle.hlc_log_audit.proofs.overs.add_claim.Goals as goal

pub returns-then-ahead-limit : goal.returns-then-ahead-limit
returns-then-ahead-limit c =
    let events = c.args.log.now.events in
    let place = c.args.place in
    let ahead = c.claimed_ahead-ahead.result in
    let is_ahead : ahead ≡ claimed_ahead (event_at events place.0) = c.claimed_ahead-ahead.ensures ∙ ap claimed_ahead c.at.ensures in
    overs_without c.args.limit events place c.args.log.now.nodes c.requires.exists ahead is_ahead c.args.overs.now c.if-ahead-limit.true c.requires.before

pub returns : goal.returns
returns c =
    let events = c.args.log.now.events in
    let place = c.args.place in
    let overs = c.args.overs.now in
    let node = c.node_at-node.result.0 in
    let ahead = c.claimed_ahead-ahead.result in
    let is_ahead : ahead ≡ claimed_ahead (event_at events place.0) = c.claimed_ahead-ahead.ensures ∙ ap claimed_ahead c.at.ensures in
    subst (λ (over : Over). AreOversBefore c.args.limit c.args.log.now.nodes events (place.0 + 1) (slice_set overs node (Some over))) (sym c.with_claim.ensures)
    (overs_with c.args.limit events place c.args.log.now.nodes c.requires.exists ahead is_ahead overs node c.node_at-node.ensures.node c.node_at-node.ensures.exists
    c.if-ahead-limit.false c.requires.before)
