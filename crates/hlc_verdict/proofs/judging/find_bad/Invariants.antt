use Rattle.std.proofs.Common.{ℕ, ◌<◌, map}
use Rattle.hlc_verdict.specs.Trace.{IsSoundAt}
use Rattle.hlc_verdict.proofs.judging.find_bad.Given as goal

abbrev pub invariant-loop-place : goal.invariant-loop-place
invariant-loop-place g l = (e : ℕ) → e < l.place → IsSoundAt (map g.C.AsClaim.claim_of l.claims) e
