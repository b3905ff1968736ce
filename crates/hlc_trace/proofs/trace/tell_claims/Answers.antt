use Rattle.std.proofs.Common.{◌∙◌, List, [], ◌∷◌, Err, ap, codes, inl, inr, map, refl, subst}
use Rattle.std.proofs.lemmas.List.{map-id}
use Rattle.std.proofs.lemmas.Result.{on_ok_weaker}
use Rattle.hlc_verdict.specs.declared.audit_fault.AuditFault.{AuditFault}
use Rattle.hlc_verdict.specs.declared.claim.Claim.{Claim}
use Rattle.hlc_verdict.specs.Trace.{IsFirstBad, IsSoundTrace}
use Rattle.hlc_verdict.specs.Verdict.{AreVerdicts}
use Rattle.hlc_trace.specs.Trace.{bad_row, verdict_rows}
use Rattle.hlc_csv.proofs.RowFacts.{text_of-one}
use Rattle.hlc_trace.proofs.TraceFacts.{few_verdicts}
use Rattle.hlc_trace.proofs.trace.tell_claims.Goals as goal

pub tell_verdicts-requires : goal.tell_verdicts-requires
tell_verdicts-requires g c =
    few_verdicts (map (λ (claim : Claim). claim) c.args.claims.now) c.in-Ok.verdicts c.in-Ok.ensures.sound c.in-Ok.ensures.verdicts

pub returns-in-Ok : goal.returns-in-Ok
returns-in-Ok g c =
    let verdicts = c.in-Ok.verdicts in
    let same = map-id c.args.claims.now in
    let sound : IsSoundTrace c.args.claims.now = subst IsSoundTrace same c.in-Ok.ensures.sound in
    let are : AreVerdicts c.args.claims.now verdicts =
    subst (λ (claims : List Claim). AreVerdicts claims verdicts) same c.in-Ok.ensures.verdicts in
    on_ok_weaker c.tell_verdicts.result (λ h. (verdict_rows verdicts, inr (verdicts, sound, are, refl), h)) c.tell_verdicts.ensures

pub returns-in-Err-BadTrace : goal.returns-in-Err-BadTrace
returns-in-Err-BadTrace g c =
    let place = c.in-Err-BadTrace.place in
    let fault = ap (λ (fault : AuditFault). Err fault) c.in-Err-BadTrace.field-0-is in
    let found = (c.judge_each.ensures.bad_trace place).0 (c.in-Err-BadTrace.is ∙ fault) in
    let first : IsFirstBad c.args.claims.now place =
    subst (λ (claims : List Claim). IsFirstBad claims place) (map-id c.args.claims.now) found in
    let rows = bad_row place (codes "trace") ∷ [] in
    on_ok_weaker c.tell_bad.result (λ h. (rows, inl (place, first, refl), rw text_of-one (rw c.from.ensures at h))) c.tell_bad.ensures
