use Rattle.std.proofs.Common.{◌∙◌}
use Rattle.hlc_verdict.proofs.Traces.{claim_told}
use Rattle.hlc_verdict.proofs.verdicts.claim_in.Goals as goal

pub returns : goal.returns
returns g c =
    let found = c.index-claims-place in
    c.as_claim.ensures ∙ claim_told g.C.AsClaim.claim_of c.args.claims.now c.args.place found.result c.requires found.is
