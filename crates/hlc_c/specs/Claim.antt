-- Claims as C sees them.
use Rattle.std.specs.Prelude.{ℕ, ◌==◌, if◌then◌else◌, min}
use Rattle.hlc_verdict.specs.declared.claim.Claim.{Claim}
use Rattle.hlc_verdict.specs.declared.claim.ClaimKind.{ClaimKind}
use Rattle.hlc_verdict.specs.declared.claim.ClaimKind.TheVariants.{Local, Receive, Send}
use Rattle.hlc_c.specs.declared.claim.CClaim.{CClaim}
use Rattle.hlc_c.specs.declared.claim.TheConstants.{HLC_LOCAL, HLC_RECEIVE, HLC_SEND}

-- what is claimed to have happened: a number that is no kind stands for a receive of no event
abbrev pub kind_of : (kind sent : ℕ) → ClaimKind
kind_of kind sent =
    if kind == HLC_LOCAL then Local else if kind == HLC_SEND then Send
    else Receive (record { 0 = if kind == HLC_RECEIVE then sent else 4294967295 })

-- the claim that C means; a node that is too large stands for the greatest
abbrev pub claim_from_c : CClaim → Claim
claim_from_c given = record {
  node = record { 0 = min given.node 65535 };
  reading = given.reading;
  kind = kind_of given.kind given.sent;
  stamp = record { l = given.l; c = given.c };
}
