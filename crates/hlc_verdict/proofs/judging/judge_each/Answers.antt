use Rattle.std.proofs.Common.{◌≡◌, ◌∙◌, ◌<◌, Err, None, ap, arith, map, refl, subst}
use Rattle.std.proofs.lemmas.List.{get_or-replicate, length-map}
use Rattle.std.proofs.lemmas.Result.{err_from_is_err_and}
use Rattle.hlc_causality.specs.Neighbours.{place_of}
use Rattle.hlc_verdict.specs.declared.audit_fault.AuditFault.{AuditFault}
use Rattle.hlc_verdict.specs.declared.audit_fault.AuditFault.TheVariants.{BadTrace}
use Rattle.hlc_verdict.specs.Trace.{IsFirstBad}
use Rattle.hlc_verdict.proofs.OneMoreVerdict.{all_left, under_way-start}
use Rattle.hlc_verdict.proofs.judging.judge_each.Goals as goal

pub invariant_of-result : goal.invariant_of-result
invariant_of-result g c =
    let size = length-map c.args.claims.now g.C.AsClaim.claim_of in
    under_way-start (map g.C.AsClaim.claim_of c.args.claims.now) _ _ _ c.in_ok-find_bad.ensures.sound refl
    (λ node lt. ap place_of (get_or-replicate 64 node None None lt)) c.in_ok-least.ensures.items (omega (arith, c.in_ok-least.ensures.capacity))

pub returns-clause-verdicts : goal.returns-clause-verdicts
returns-clause-verdicts g c = all_left (map g.C.AsClaim.claim_of c.args.claims.now) _ c.in_ok-least.ensures.items

pub returns-in_err-find_bad-clause-verdicts : goal.returns-in_err-find_bad-clause-verdicts
returns-in_err-find_bad-clause-verdicts g c = let from = err_from_is_err_and c.from_residual.result c.from_residual.ensures.1 in rw from.1 tt

pub returns-in_err-find_bad-clause-sound : goal.returns-in_err-find_bad-clause-sound
returns-in_err-find_bad-clause-sound g c = let from = err_from_is_err_and c.from_residual.result c.from_residual.ensures.1 in rw from.1 tt

pub returns-in_err-find_bad-clause-bad_trace : goal.returns-in_err-find_bad-clause-bad_trace
returns-in_err-find_bad-clause-bad_trace g c = λ place.
    let from = err_from_is_err_and c.from_residual.result c.from_residual.ensures.1 in
    let found = c.in_err-find_bad.ensures.bad in (
      λ is.
          let same : found.0 ≡ place = cc (from.1, from.2, found.1) in
          subst (IsFirstBad (map g.C.AsClaim.claim_of c.args.claims.now)) same found.2,
      λ first.
          let not_less : ¬ place < found.0 = λ lt. first.bad (found.2.sound_before place lt) in
          let not_more : ¬ found.0 < place = λ lt. found.2.bad (first.sound_before found.0 lt) in
          let same : found.0 ≡ place = omega arith in
          from.1 ∙ ap (λ (e : AuditFault). Err e) (from.2 ∙ found.1 ∙ ap BadTrace same),
    )

pub returns-in_err-find_bad-clause-faults : goal.returns-in_err-find_bad-clause-faults
returns-in_err-find_bad-clause-faults g c =
    let from = err_from_is_err_and c.from_residual.result c.from_residual.ensures.1 in
    rw (from.1, from.2 ∙ c.in_err-find_bad.ensures.bad.1) tt

pub returns-in_err-least-clause-verdicts : goal.returns-in_err-least-clause-verdicts
returns-in_err-least-clause-verdicts g c = let from = err_from_is_err_and c.from_residual-in_err-least.result c.from_residual-in_err-least.ensures.1 in rw from.1 tt

pub returns-in_err-least-clause-sound : goal.returns-in_err-least-clause-sound
returns-in_err-least-clause-sound g c = let from = err_from_is_err_and c.from_residual-in_err-least.result c.from_residual-in_err-least.ensures.1 in rw from.1 tt

pub returns-in_err-least-clause-bad_trace : goal.returns-in_err-least-clause-bad_trace
returns-in_err-least-clause-bad_trace g c = λ place.
    let from = err_from_is_err_and c.from_residual-in_err-least.result c.from_residual-in_err-least.ensures.1 in
    (λ is. absurd (cc (from.1, from.2)), λ first. absurd (first.bad (c.in_ok-find_bad.ensures.sound place first.exists)))

pub returns-in_err-least-clause-faults : goal.returns-in_err-least-clause-faults
returns-in_err-least-clause-faults g c = let from = err_from_is_err_and c.from_residual-in_err-least.result c.from_residual-in_err-least.ensures.1 in rw (from.1, from.2) tt

pub returns-clause-bad_trace : goal.returns-clause-bad_trace
returns-clause-bad_trace g c = λ place. (λ is. absurd (cc), λ first. absurd (first.bad (c.in_ok-find_bad.ensures.sound place first.exists)))
