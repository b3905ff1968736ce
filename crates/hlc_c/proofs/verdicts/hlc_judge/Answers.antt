use Rattle.std.proofs.Common.{◌≡◌, Err, arith, refl}
use Rattle.hlc_verdict.specs.declared.audit_fault.AuditFault.TheVariants.{BadTrace}
use Rattle.hlc_c.proofs.verdicts.hlc_judge.Goals as goal

pub returns-in-Err-BadTrace-clause-bad_trace : goal.returns-in-Err-BadTrace-clause-bad_trace
returns-in-Err-BadTrace-clause-bad_trace c =
    let place = c.in-Err-BadTrace.place in
    let is : c.judge_into.result ≡ Err (BadTrace place) = cc in
    (λ _. (omega arith, (place, (c.judge_into.ensures.bad_trace place).0 is)), λ _. refl)

pub returns-in-Err-BadTrace-clause-bad_place : goal.returns-in-Err-BadTrace-clause-bad_place
returns-in-Err-BadTrace-clause-bad_place c =
    let place = c.in-Err-BadTrace.place in
    let is : c.judge_into.result ≡ Err (BadTrace place) = cc in
    λ _. (c.judge_into.ensures.bad_trace place).0 is
