use Rattle.std.proofs.Common.{◌≡◌, ◌∙◌, ◌<◌, ap, map, subst, sym}
use Rattle.hlc_stamp.specs.declared.id.EventId.{EventId}
use Rattle.hlc_causality.specs.Neighbours.{place_of}
use Rattle.hlc_causality.specs.Predecessors.{send_of}
use Rattle.hlc_verdict.specs.Trace.{trace_skeleton}
use Rattle.hlc_verdict.proofs.Traces.{first_of_both, no_send_where_none, previous_is_earlier, received_is_earlier, send_where_received}
use Rattle.hlc_verdict.proofs.verdicts.first_not_above.Goals as goal
use Rattle.hlc_verdict.proofs.verdicts.first_not_above.Goals.{in-Receive, in_default}

pub if_not_above-requires-clause-earlier : goal.if_not_above-requires-clause-earlier
if_not_above-requires-clause-earlier g c =
    let claims = map g.C.AsClaim.claim_of c.args.claims.now in
    previous_is_earlier (trace_skeleton claims) c.args.place c.args.previous c.requires.previous

pub if_not_above-requires-2-clause-earlier : goal.if_not_above-requires-2-clause-earlier
if_not_above-requires-2-clause-earlier g c =
    let claims = map g.C.AsClaim.claim_of c.args.claims.now in
    let earlier = received_is_earlier claims c.args.place c.claim_in.result c.claim_in.ensures c.requires.sound in
    elim c.match-claim_in.branch [
      | in-Receive w ↦ λ d is.
          let same : w.in-Receive.sent ≡ d = cc in
          subst (λ (x : EventId). x.0 < c.args.place) same (earlier w.in-Receive.sent w.in-Receive.is)
      | in_default w ↦ λ d is. cc
    ]

pub returns : goal.returns
returns g c =
    let claims = map g.C.AsClaim.claim_of c.args.claims.now in
    let place = c.args.place in
    let claim = c.claim_in in
    let previous = c.if_not_above in
    let of_sent = c.if_not_above-2 in
    let sent : place_of c.match-claim_in.sent ≡ send_of (trace_skeleton claims) place =
    elim c.match-claim_in.branch [
      | in-Receive w ↦
          let received = w.in-Receive in
          ap place_of w.sent-is
          ∙ sym (send_where_received claims place claim.result claim.ensures c.requires.sound received.sent received.is)
      | in_default w ↦ ap place_of w.sent-is ∙ sym (no_send_where_none claims place claim.result claim.ensures w.in_default.not-Receive)
    ] in
    ap place_of c.or.ensures
    ∙ first_of_both claims place c.args.previous c.match-claim_in.sent previous.result of_sent.result
    c.requires.previous sent previous.ensures of_sent.ensures
