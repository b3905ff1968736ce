use Rattle.std.proofs.Common.{◌≡◌, arith, inl, inr, length}
use Rattle.hlc_stamp.specs.declared.limits.TheConstants.{MAX_RECORDS}
use Rattle.hlc_csv.specs.declared.end.End.TheVariants.{NoRecordLeft}
use Rattle.hlc_trace.specs.Trace.{ReadsClaims}
use Rattle.hlc_trace.specs.declared.trace_end.TraceEnd.TheVariants.{NoClaim, Reading}
use Rattle.hlc_trace.proofs.TraceFacts.{is_judged-bad, is_judged-whole}
use Rattle.hlc_trace.proofs.trace.judge_run.Goals as goal

pub returns-in-Reading-NoRecordLeft-clause-ok : goal.returns-in-Reading-NoRecordLeft-clause-ok
returns-in-Reading-NoRecordLeft-clause-ok g c =
    let claims = c.read_claims.new.claims.items in
    let read : ReadsClaims MAX_RECORDS (g.R.Read.remaining c.args.reader) claims (Reading NoRecordLeft) =
    rw (c.in-Reading-NoRecordLeft.is, c.in-Reading-NoRecordLeft.field-0-is) at c.in_ok-read_claims.ensures in
    let told = c.in_ok-tell_claims-in-Reading-NoRecordLeft.ensures in
    inl (is_judged-whole _ _ _ _ claims told.0 read (rw c.deref.ensures.value at told.1) told.2)

pub returns-clause-ok : goal.returns-clause-ok
returns-clause-ok g c =
    let claims = c.read_claims.new.claims.items in
    let read : ReadsClaims MAX_RECORDS (g.R.Read.remaining c.args.reader) claims (NoClaim c.in-NoClaim.bad) =
    rw c.in-NoClaim.is at c.in_ok-read_claims.ensures in
    let size : c.len.result ≡ length claims = let made = c.read_claims.new.claims.ok.0 in omega (arith, c.len.ensures) in
    inr (is_judged-bad _ _ _ _ claims c.in-NoClaim.bad read (rw (size, c.word.ensures) at c.in_ok-tell_bad-in-NoClaim.ensures))
