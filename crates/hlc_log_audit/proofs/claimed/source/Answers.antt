use Rattle.std.proofs.Common.{◌≡◌, ◌∙◌, ap}
use Rattle.hlc_causality.specs.Neighbours.{place_of}
use Rattle.hlc_causality.specs.Predecessors.{previous_of, send_of}
use Rattle.hlc_causes.proofs.Predecessors.{previous_named}
use Rattle.hlc_log_audit.proofs.Ways.{send_named}
use Rattle.hlc_log_audit.specs.ClaimedWay.{greater_c, if_same_l}
use Rattle.hlc_log_audit.proofs.claimed.source.Goals as goal

pub returns : goal.returns
returns g c =
    let s = c.args.execution.now.events in
    let claimed = g.C.Claims.claimed c.args.claims.now in
    let f = c.args.event.0 in
    let exists = c.requires.exists in
    let previous : place_of c.if_same_l-previous.result ≡ if_same_l claimed f (previous_of s f) =
    c.if_same_l-previous.ensures ∙ ap (if_same_l claimed f) (previous_named s f c.previous.result exists c.previous.ensures) in
    let send : place_of c.if_same_l-send.result ≡ if_same_l claimed f (send_of s f) =
    c.if_same_l-send.ensures ∙ ap (if_same_l claimed f) (send_named s f c.send.result exists c.send.ensures) in
    c.greater_c.ensures ∙ (λ i. greater_c claimed (previous i) (send i))
