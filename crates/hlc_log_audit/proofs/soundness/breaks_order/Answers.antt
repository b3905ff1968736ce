use Rattle.std.proofs.Common.{inl, inr, arith}
use Rattle.std.proofs.lemmas.Bool.{lt-ltb, ltb-true}
use Rattle.hlc_log_audit.proofs.BrokenStamps.{behind_counted, behind_there, not_above_counted, not_above_there}
use Rattle.hlc_log_audit.proofs.soundness.breaks_order.Goals as goal

pub returns-then-counts-gt0 : goal.returns-then-counts-gt0
returns-then-counts-gt0 c log full are =
    let some = c.if-counts-gt0.true in (
      λ holds. let at = behind_there log full c.args.counts are some in (at.0, at.1, inl at.2),
      λ breaks. lt-ltb 0 c.args.counts.behind some,
    )

pub returns-else-counts-gt0 : goal.returns-else-counts-gt0
returns-else-counts-gt0 c log full are =
    let none = c.if-counts-gt0.false in (
      λ holds.
          let some = ltb-true 0 c.args.counts.not_above holds in
          let at = not_above_there log full c.args.counts are some in
          (at.0, at.1, inr at.2),
      λ breaks. elim breaks.2 [
        | inl behind ↦ let some = behind_counted log full c.args.counts are breaks.0 breaks.1 behind in absurd (omega arith)
        | inr above ↦
            lt-ltb 0 c.args.counts.not_above (not_above_counted log full c.args.counts are breaks.0 above.0 breaks.1 (λ some. omega arith) above.1)
      ],
    )
