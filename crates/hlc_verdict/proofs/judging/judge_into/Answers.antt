use Rattle.std.proofs.Common.{◌≡◌, ◌∙◌, Err, ap, map, refl, sym}
use Rattle.std.proofs.lemmas.List.{length-map}
use Rattle.std.proofs.lemmas.Result.{err_from_is_err_and}
use Rattle.hlc_verdict.specs.declared.audit_fault.AuditFault.{AuditFault}
use Rattle.hlc_verdict.specs.declared.audit_fault.AuditFault.TheVariants.{BadTrace}
use Rattle.hlc_verdict.proofs.Honesty.{length_verdicts}
use Rattle.hlc_verdict.proofs.judging.judge_into.Goals as goal

pub returns-in_err-left-clause-bad_trace : goal.returns-in_err-left-clause-bad_trace
returns-in_err-left-clause-bad_trace g c = λ place.
    let from = err_from_is_err_and c.from_residual.result c.from_residual.ensures.1 in
    let told = c.in_err-left.ensures.bad_trace place in (
      λ is.
          let fault : c.in_err-left.field-0.0 ≡ BadTrace place = cc (from.1, from.2) in
          told.0 (ap (λ (e : AuditFault). Err e) fault),
      λ first.
          let is = told.1 first in
          let fault : c.in_err-left.field-0.0 ≡ BadTrace place = cc is in
          from.1 ∙ ap (λ (e : AuditFault). Err e) (from.2 ∙ fault),
    )

pub write_verdicts-requires : goal.write_verdicts-requires
write_verdicts-requires g c = record {
  one_each =
      let claims = map g.C.AsClaim.claim_of c.args.claims.now in
      let size = length-map c.args.claims.now g.C.AsClaim.claim_of in
      c.requires.one_each ∙ sym size ∙ sym (length_verdicts claims c.in_ok-left.left c.in_ok-left.ensures.verdicts);
}

pub returns-in_err-left-clause-verdicts : goal.returns-in_err-left-clause-verdicts
returns-in_err-left-clause-verdicts g c = let from = err_from_is_err_and c.from_residual.result c.from_residual.ensures.1 in rw from.1 tt

pub returns-in_err-left-clause-sound : goal.returns-in_err-left-clause-sound
returns-in_err-left-clause-sound g c = let from = err_from_is_err_and c.from_residual.result c.from_residual.ensures.1 in rw from.1 tt

pub returns-in_err-left-clause-faults : goal.returns-in_err-left-clause-faults
returns-in_err-left-clause-faults g c = let from = err_from_is_err_and c.from_residual.result c.from_residual.ensures.1 in rw (from.1, from.2) c.in_err-left.ensures.faults

pub returns-in_err-left-clause-unchanged : goal.returns-in_err-left-clause-unchanged
returns-in_err-left-clause-unchanged g c = let from = err_from_is_err_and c.from_residual.result c.from_residual.ensures.1 in rw from.1 refl
