use Rattle.std.proofs.Common.{◌↔◌, Bool, subst, sym, ℕ, ◌≡◌, Some}
use Rattle.std.specs.Prelude.{IsTrue}
use Rattle.hlc_ordered_log.specs.Found.{IsCauseAt}
use Rattle.hlc_ordered_log.specs.InOrder.{wrong_of}
use Rattle.hlc_log_picture.proofs.Judging.{cause_by_carried, cause_by_rule, first_is_named, wrong_is_named}
use Rattle.hlc_log_picture.proofs.event_finding.is_cause.Goals as goal

pub returns-then-is_some : goal.returns-then-is_some
returns-then-is_some c =
    let log = c.args.log.now in
    let k = c.args.event.0 in
    cause_by_rule log c.args.full k c.is_some.result c.if-is_some.true
    (subst (λ (b : Bool). IsTrue b ↔ IsCauseAt log c.args.full k) (sym c.is_some.ensures)
    (first_is_named log c.args.full k c.causes.result c.first.result c.causes.ensures c.first.ensures))

pub returns-else-is_some : goal.returns-else-is_some
returns-else-is_some c =
    let log = c.args.log.now in
    let k = c.args.event.0 in
    cause_by_carried log c.args.full k c.is_some.result c.is_some-else-is_some.result c.if-is_some.false
    (subst (λ (b : Bool). IsTrue b ↔ IsCauseAt log c.args.full k) (sym c.is_some.ensures)
    (first_is_named log c.args.full k c.causes.result c.first.result c.causes.ensures c.first.ensures))
    (subst (λ (b : Bool). IsTrue b ↔ ((d : ℕ) × (wrong_of log k ≡ Some d))) (sym c.is_some-else-is_some.ensures)
    (wrong_is_named c.wrongly_carried.result (wrong_of log k) c.wrongly_carried.ensures))
