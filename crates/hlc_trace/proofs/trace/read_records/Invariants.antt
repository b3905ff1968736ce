use Rattle.std.proofs.Common.{[], List, Option, ℕ}
use Rattle.hlc_csv.specs.Records.{HasRead, IsScript}
use Rattle.hlc_trace.proofs.TraceFacts.{ClaimsSoFar}
use Rattle.hlc_trace.proofs.trace.read_records.Given as goal

abbrev pub invariant-loop-count : goal.invariant-loop-count
invariant-loop-count g l =
    let remaining = g.R.Read.remaining in
    IsScript l.input
    × ((bytes : Option (List ℕ)) → HasRead remaining l.initial.input bytes [] → ClaimsSoFar remaining bytes l.input l.claims.items l._count)
