use Rattle.std.proofs.Common.{refl}
use Rattle.hlc_verdict.proofs.Traces.{within_told}
use Rattle.hlc_verdict.proofs.judging.find_bad.Goals as goal

pub returns-then-not-is_sound_at-clause-bad : goal.returns-then-not-is_sound_at-clause-bad
returns-then-not-is_sound_at-clause-bad g c = (
  c.loop-place.place,
  refl,
  record {
    exists = within_told g.C.AsClaim.claim_of c.args.claims.now c.loop-place.place c.loop-place-test.true;
    bad = λ sound. let yes = c.is_sound_at.ensures.1 sound in cc;
    sound_before = c.loop-place.invariant;
  },
)
