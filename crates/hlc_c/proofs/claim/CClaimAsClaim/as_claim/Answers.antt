use Rattle.std.proofs.Common.{rules}
use Rattle.hlc_c.proofs.claim.CClaimAsClaim.as_claim.Goals as goal

pub returns : goal.returns
returns c = search rules
