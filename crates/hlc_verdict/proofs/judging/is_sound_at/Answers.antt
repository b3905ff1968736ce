use Rattle.std.proofs.Common.{map}
use Rattle.hlc_verdict.proofs.Traces.{sound_where}
use Rattle.hlc_verdict.proofs.judging.is_sound_at.Goals as goal

pub returns-then-claim-le-MAX_READING : goal.returns-then-claim-le-MAX_READING
returns-then-claim-le-MAX_READING g c =
    let claims = map g.C.AsClaim.claim_of c.args.claims.now in
    let claim = c.claim_in-claim in
    let tests = c.if-claim-le-MAX_READING.true in
    let sound = sound_where claims c.args.place claim.result claim.ensures tests.0 tests.1 tests.2 tests.3 in (
      λ yes. sound (c.receives_send.ensures.0 yes),
      λ sound. c.receives_send.ensures.1 sound.kind,
    )
