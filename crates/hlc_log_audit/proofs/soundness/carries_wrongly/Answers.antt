use Rattle.std.proofs.Common.{◌≡◌, ◌∙◌, true, ℕ, Option, Some, None, arith, refl, sym}
use Rattle.std.specs.Prelude.{is_some}
use Rattle.hlc_stamp.specs.declared.id.EventId.{EventId}
use Rattle.hlc_causality.specs.Neighbours.{place_of}
use Rattle.hlc_ordered_log.proofs.Ordering.{order_len}
use Rattle.hlc_log_audit.proofs.soundness.carries_wrongly.Goals as goal

named : (o : Option EventId) → is_some o ≡ true → (d : ℕ) × (place_of o ≡ Some d)
named None is = absurd (cc)
named (Some d) is = (d.0, refl)

pub returns-then-is_some : goal.returns-then-is_some
returns-then-is_some c =
    let log = c.args.log.now in
    let k = c.loop-position.position in
    let places = order_len log.events log.order c.len-position-end.ensures.ordered.causal in
    let at = named c.wrongly_carried.result (sym c.is_some.ensures ∙ c.if-is_some.true) in (
      λ _. (k, at.0, omega (arith, c.loop-position-test.true, c.len-position-end.ensures.value, places), sym c.wrongly_carried.ensures ∙ at.1),
      λ _. refl,
    )

pub returns : goal.returns
returns c = (
  λ holds. absurd (cc),
  λ wrong.
      let log = c.args.log.now in
      let places = order_len log.events log.order c.len-position-end.ensures.ordered.causal in
      let none = c.loop-position.invariant wrong.0 (omega (arith, wrong.2, c.loop-position-test.false, c.len-position-end.ensures.value, places)) in
      let both = sym none ∙ wrong.3 in
      absurd (cc),
)
