use Rattle.std.proofs.Common.{◌≡◌, ℕ, [], ◌∷◌, ◌++◌, length, arith, ap, subst, sym, ◌∙◌, refl}
use Rattle.hlc_ordered_log.specs.declared.counts.Counts.{Counts}
use Rattle.hlc_ordered_log.specs.Counts.{AreFindings, with_finding}
use Rattle.hlc_ordered_log.proofs.Counting.{counts_push, findings_push}
use Rattle.hlc_ordered_log.proofs.Ordering.{order_len}
use Rattle.hlc_ordered_log.proofs.counts.count_findings.Goals as goal

pub loop-position-init : goal.loop-position-init
loop-position-init c = ([], record { one_each = refl; each = λ f before. absurd (omega arith) }, c.new-counts.ensures)

pub loop-position-preserved : goal.loop-position-preserved
loop-position-preserved c =
    let log = c.args.log.now in
    let before = c.loop-position.invariant in
    let found = c.finding.result in (
      before.0 ++ found ∷ [],
      findings_push log c.args.full c.loop-position.position before.0 found before.1 c.finding.ensures,
      c.add.ensures ∙ ap (λ (counts : Counts). with_finding counts found) before.2 ∙ sym (counts_push before.0 found),
    )

pub returns : goal.returns
returns c =
    let log = c.args.log.now in
    let found = c.loop-position.invariant in
    let ends = c.loop-position-test.false in
    let most = c.loop-position.auto.position-end in
    let ordered = c.len-position-end.ensures.ordered in
    let all : c.loop-position.position ≡ length log.order =
    omega (arith, ends, most, c.len-position-end.ensures.value, order_len log.events log.order ordered.causal) in
    (found.0, subst (λ (n : ℕ). AreFindings log c.args.full n found.0) all found.1, found.2)
