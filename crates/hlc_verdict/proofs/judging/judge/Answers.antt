use Rattle.std.proofs.Common.{◌≡◌, ◌∙◌, [], ◌++◌, Err, List, ap, arith, drop, length, rules, subst, sym, take}
use Rattle.std.proofs.lemmas.List.{append-nil, drop_all, map-id, take_all}
use Rattle.std.proofs.lemmas.Result.{err_from_is_err_and}
use Rattle.hlc_verdict.specs.declared.audit_fault.AuditFault.{AuditFault}
use Rattle.hlc_verdict.specs.declared.audit_fault.AuditFault.TheVariants.{BadTrace}
use Rattle.hlc_verdict.specs.declared.claim.Claim.{Claim}
use Rattle.hlc_verdict.specs.declared.verdict.Verdict.{Verdict}
use Rattle.hlc_verdict.specs.Trace.{IsFirstBad, IsSoundTrace}
use Rattle.hlc_verdict.specs.Verdict.{AreVerdicts}
use Rattle.hlc_verdict.proofs.Honesty.{length_verdicts}
use Rattle.hlc_verdict.proofs.judging.judge.Goals as goal

pub returns-in_err-left-clause-bad_trace : goal.returns-in_err-left-clause-bad_trace
returns-in_err-left-clause-bad_trace c = λ place.
    let from = err_from_is_err_and c.from_residual.result c.from_residual.ensures.1 in
    let told = c.in_err-left.ensures.bad_trace place in
    let same = map-id c.args.claims.now in (
      λ is.
          let fault : c.in_err-left.field-0.0 ≡ BadTrace place = cc (from.1, from.2) in
          subst (λ (claims : List Claim). IsFirstBad claims place) same (told.0 (ap (λ (e : AuditFault). Err e) fault)),
      λ first.
          let is = told.1 (subst (λ (claims : List Claim). IsFirstBad claims place) (sym same) first) in
          let fault : c.in_err-left.field-0.0 ≡ BadTrace place = cc is in
          from.1 ∙ ap (λ (e : AuditFault). Err e) (from.2 ∙ fault),
    )

pub write_verdicts-requires : goal.write_verdicts-requires
write_verdicts-requires c =
    let left = c.in_ok-left.left in
    let are : AreVerdicts c.args.claims.now left =
    subst (λ (claims : List Claim). AreVerdicts claims left) (map-id c.args.claims.now) c.in_ok-left.ensures.verdicts in
    let there : length c.deref_mut.result.now ≡ length c.args.claims.now = search rules in
    record { one_each = there ∙ sym (length_verdicts c.args.claims.now left are) }

pub returns-clause-verdicts : goal.returns-clause-verdicts
returns-clause-verdicts c =
    let left = c.in_ok-left.left in
    let are : AreVerdicts c.args.claims.now left =
    subst (λ (claims : List Claim). AreVerdicts claims left) (map-id c.args.claims.now) c.in_ok-left.ensures.verdicts in
    let size = length_verdicts c.args.claims.now left are in
    let room = c.in_ok-verdicts.verdicts in
    let new = c.write_verdicts.new.verdicts in
    let written : new ≡ left = c.write_verdicts.ensures ∙ map-id left in
    let many : length new ≡ length left = ap length written in
    let sized = room.ok.0 in
    let counted = c.in_ok-verdicts.ensures.len in
    let over : drop (length new) room.items ≡ [] = drop_all (length new) room.items (omega arith) in
    let whole : take room.len (new ++ drop (length new) room.items) ≡ left =
    ap (λ (rest : List Verdict). take room.len (new ++ rest)) over ∙ ap (take room.len) (append-nil new)
    ∙ take_all room.len new (omega arith) ∙ written in
    (are.0, are.1, whole ∙ are.2)

pub returns-clause-sound : goal.returns-clause-sound
returns-clause-sound c = subst IsSoundTrace (map-id c.args.claims.now) c.in_ok-left.ensures.sound

pub returns-clause-bad_trace : goal.returns-clause-bad_trace
returns-clause-bad_trace c = λ place.
    let sound : IsSoundTrace c.args.claims.now = subst IsSoundTrace (map-id c.args.claims.now) c.in_ok-left.ensures.sound in
    (λ is. absurd cc, λ first. absurd (first.bad (sound place first.exists)))
