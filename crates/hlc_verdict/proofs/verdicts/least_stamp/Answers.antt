use Rattle.std.proofs.Common.{arith, map, ap, sym}
use Rattle.hlc_causality.proofs.LeastPairs.{counter_is_at_most_place}
use Rattle.hlc_verdict.specs.Trace.{send_received, trace_skeleton}
use Rattle.hlc_verdict.proofs.Traces.{before, counter_of_previous, length_before, within_told}
use Rattle.hlc_verdict.proofs.Traces.{least_after_local, least_after_receive, no_send, previous_is_earlier, received_is_earlier}
use Rattle.hlc_verdict.proofs.verdicts.least_stamp.Goals as goal

pub last_stamp-old-requires : goal.last_stamp-old-requires
last_stamp-old-requires g c = λ d is.
    let claims = map g.C.AsClaim.claim_of c.args.claims.now in
    let exists = within_told g.C.AsClaim.claim_of c.args.claims.now c.args.place c.requires.exists in
    let earlier = previous_is_earlier (trace_skeleton claims) c.args.place c.args.previous c.requires.previous d is in
    let size = c.requires.before.allowed.one_each in
    let shorter = length_before claims c.args.place c.args.previous exists c.requires.previous in
    omega arith

pub merge-requires-clause-room : goal.merge-requires-clause-room
merge-requires-clause-room g c =
    let claims = map g.C.AsClaim.claim_of c.args.claims.now in
    let exists = within_told g.C.AsClaim.claim_of c.args.claims.now c.args.place c.requires.exists in
    let counts = counter_of_previous claims c.args.place c.args.previous exists c.requires.previous
    c.args.least.now c.last_stamp-old.result c.requires.before c.last_stamp-old.ensures in
    λ _ _. omega (arith, counts, c.requires.sound.few)

pub merge-requires-clause-message_room : goal.merge-requires-clause-message_room
merge-requires-clause-message_room g c =
    let claims = map g.C.AsClaim.claim_of c.args.claims.now in
    let exists = within_told g.C.AsClaim.claim_of c.args.claims.now c.args.place c.requires.exists in
    let claim = c.claim_in-claim in
    let sent = c.in-Receive.sent in
    let earlier = received_is_earlier claims c.args.place claim.result claim.ensures c.requires.sound sent c.in-Receive.is in
    let size = length_before claims c.args.place c.args.previous exists c.requires.previous in
    let events = before claims c.args.place c.args.previous exists c.requires.previous in
    let counts = counter_is_at_most_place events c.args.least.now sent.0 (omega arith) c.requires.before in
    λ _ _. omega (arith, counts, earlier, c.requires.sound.few)

pub tick-requires-clause-room : goal.tick-requires-clause-room
tick-requires-clause-room g c =
    let claims = map g.C.AsClaim.claim_of c.args.claims.now in
    let exists = within_told g.C.AsClaim.claim_of c.args.claims.now c.args.place c.requires.exists in
    let counts = counter_of_previous claims c.args.place c.args.previous exists c.requires.previous
    c.args.least.now c.last_stamp-old.result c.requires.before c.last_stamp-old.ensures in
    λ _. omega (arith, counts, c.requires.sound.few)

pub returns-in-Receive : goal.returns-in-Receive
returns-in-Receive g c =
    let claims = map g.C.AsClaim.claim_of c.args.claims.now in
    let exists = within_told g.C.AsClaim.claim_of c.args.claims.now c.args.place c.requires.exists in
    let claim = c.claim_in-claim in
    let sent = c.in-Receive.sent in
    let earlier = received_is_earlier claims c.args.place claim.result claim.ensures c.requires.sound sent c.in-Receive.is in
    let positive = rw (sym claim.ensures) at c.requires.sound.positive in
    let merged = c.merge.ensures in
    least_after_receive claims c.args.place c.args.previous exists c.requires.previous
    c.args.least.now c.last_stamp-old.result c.requires.before c.last_stamp-old.ensures c.merge.result
    claim.result claim.ensures sent.0 (ap send_received c.in-Receive.is) earlier positive
    merged.above_old merged.above_message merged.not_behind merged.least

pub returns-in_default : goal.returns-in_default
returns-in_default g c =
    let claims = map g.C.AsClaim.claim_of c.args.claims.now in
    let exists = within_told g.C.AsClaim.claim_of c.args.claims.now c.args.place c.requires.exists in
    let claim = c.claim_in-claim in
    let positive = rw (sym claim.ensures) at c.requires.sound.positive in
    let ticked = c.tick.ensures in
    least_after_local claims c.args.place c.args.previous exists c.requires.previous
    c.args.least.now c.last_stamp-old.result c.requires.before c.last_stamp-old.ensures c.tick.result
    claim.result claim.ensures (no_send claim.result.kind c.in_default.not-Receive) positive ticked.above ticked.not_behind ticked.least
