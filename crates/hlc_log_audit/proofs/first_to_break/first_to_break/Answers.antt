use Rattle.std.proofs.Common.{◌≡◌, ◌∙◌, ◌<◌, true, false, length, arith, sym, ap}
use Rattle.std.proofs.lemmas.Bool.{eq-eqb, eqb-true}
use Rattle.hlc_log.specs.declared.log_event.LogEvent.{LogEvent}
use Rattle.hlc_log_audit.proofs.FirstToBreak.{found_first, node_there, none_after, none_breaks}
use Rattle.hlc_log_audit.proofs.first_to_break.first_to_break.Goals as goal
use Rattle.hlc_log_audit.proofs.first_to_break.first_to_break.Goals.{else-eq-via-then-eq+else-breaks_by, else-eq-via-else-eq}

pub returns-then-breaks_by-clause-first : goal.returns-then-breaks_by-clause-first
returns-then-breaks_by-clause-first c =
    let log = c.args.log.now in
    let k = c.loop-place.place in
    let node = c.args.node.0 in
    let lt : k < length log.events = omega (arith, c.loop-place-test.true, c.len-place-end.ensures.value) in
    let there = node_there log c.requires c.args.full c.args.word node k lt in
    let here = ap (λ (event : LogEvent). event.node.0) c.event.ensures in
    let same = eqb-true c.event.result.node.0 node (sym c.if-eq.ensures) in
    found_first log c.requires c.args.full c.args.word node k lt c.loop-place.invariant (there ∙ sym here ∙ same)
    (c.breaks_by.ensures.0 c.if-breaks_by.true)

pub loop-place-preserved : goal.loop-place-preserved
loop-place-preserved c =
    let log = c.args.log.now in
    let k = c.loop-place.place in
    let node = c.args.node.0 in
    let lt : k < length log.events = omega (arith, c.loop-place-test.true, c.len-place-end.ensures.value) in
    let there = node_there log c.requires c.args.full c.args.word node k lt in
    let here = ap (λ (event : LogEvent). event.node.0) c.event.ensures in
    elim c.else-eq.branch [
      | else-eq-via-then-eq+else-breaks_by w ↦
          none_after log c.requires c.args.full c.args.word node k c.loop-place.invariant (λ at breaks.
          let both : true ≡ false = sym (w.breaks_by.ensures.1 breaks) ∙ w.if-breaks_by.false in
          cc)
      | else-eq-via-else-eq w ↦
          none_after log c.requires c.args.full c.args.word node k c.loop-place.invariant (λ at breaks.
          let both : true ≡ false = sym (eq-eqb c.event.result.node.0 node (here ∙ sym there ∙ at)) ∙ sym w.if-eq.ensures in
          cc)
    ]

pub returns-clause-first : goal.returns-clause-first
returns-clause-first c =
    none_breaks c.args.log.now c.requires c.args.full c.args.word c.args.node.0 c.loop-place.place
    (omega (arith, c.loop-place-test.false, c.len-place-end.ensures.value)) c.loop-place.invariant
