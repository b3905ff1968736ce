use Rattle.std.proofs.Common.{◌≡◌, ◌∙◌, Bool, false, inl, inr, sym, true, ℕ}
use Rattle.hlc_log_text.specs.StampForms.{greatest_c}
use Rattle.hlc_ordered_log.specs.InOrder.{LogInOrder}
use Rattle.hlc_ordered_log.specs.declared.counts.Counts.{Counts}
use Rattle.std.specs.Prelude.{◌↔◌, IsTrue}
use Rattle.hlc_log_audit.specs.Audit.{CarriesWrongly, IsBroken, TellsDisorder}
use Rattle.hlc_ordered_log.specs.Counts.{AreCounted}
use Rattle.hlc_log_audit.proofs.soundness.outcome.Goals as goal
use Rattle.hlc_log_audit.proofs.soundness.outcome.Goals.{then-breaks_order-via-then-breaks_order, then-breaks_order-via-else-breaks_order+then-carries_wrongly}

refuted : (b : Bool) → b ≡ true → b ≡ false → ⊥
refuted b holds fails =
    let both : ◌≡◌ {A = Bool} true false = sym holds ∙ fails in
    absurd (cc)

-- where neither is told, nothing is broken
not_broken : (log : LogInOrder) (full : ℕ) (counts : Counts) (disorder wrong : Bool) → AreCounted log full counts → TellsDisorder counts disorder
    → disorder ≡ false → IsTrue wrong ↔ CarriesWrongly log → wrong ≡ false → ¬ IsBroken log full
not_broken log full counts disorder wrong are tells none carries none_wrong (inl breaks) = refuted disorder ((tells log full are).1 breaks) none
not_broken log full counts disorder wrong are tells none carries none_wrong (inr carried) = refuted wrong (carries.1 carried) none_wrong

pub returns-then-breaks_order : goal.returns-then-breaks_order
returns-then-breaks_order c = (
  elim c.then-breaks_order.branch [
    | then-breaks_order-via-then-breaks_order w ↦
        inl ((c.breaks_order.ensures c.args.log.now (greatest_c c.args.rules.records.form) c.requires).0 w.if-breaks_order.true)
    | then-breaks_order-via-else-breaks_order+then-carries_wrongly w ↦ inr (w.carries_wrongly.ensures.0 w.if-carries_wrongly.true)
  ],
  c.is_over_limit-over_limit.ensures,
)

pub returns-then-over_limit : goal.returns-then-over_limit
returns-then-over_limit c = (
  not_broken c.args.log.now (greatest_c c.args.rules.records.form) c.args.counts c.breaks_order.result c.carries_wrongly.result c.requires
      c.breaks_order.ensures c.if-breaks_order.false c.carries_wrongly.ensures c.if-carries_wrongly.false,
  c.is_over_limit-over_limit.ensures.0 c.if-over_limit.true,
)

pub returns : goal.returns
returns c = (
  not_broken c.args.log.now (greatest_c c.args.rules.records.form) c.args.counts c.breaks_order.result c.carries_wrongly.result c.requires
      c.breaks_order.ensures c.if-breaks_order.false c.carries_wrongly.ensures c.if-carries_wrongly.false,
  λ exceeds. refuted c.is_over_limit-over_limit.result (c.is_over_limit-over_limit.ensures.1 exceeds) c.if-over_limit.false,
)
