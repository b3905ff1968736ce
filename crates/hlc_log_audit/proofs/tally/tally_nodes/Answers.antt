use Rattle.std.proofs.Common.{◌≡◌, ◌∙◌, ℕ, length, replicate, ap, arith, subst, sym}
use Rattle.hlc_log_audit.specs.Tally.{AreTalliesBefore, no_tally}
use Rattle.hlc_log_audit.proofs.Tallies.{tallies_begin}
use Rattle.hlc_log_audit.proofs.tally.tally_nodes.Goals as goal

pub loop-position-init : goal.loop-position-init
loop-position-init c =
    let log = c.args.log.now in
    let all : c.in_ok-tallies.tallies.items ≡ replicate log.nodes no_tally =
    c.in_ok-tallies.ensures.items_if_clones_equal (λ tally same. same) ∙ ap (λ (n : ℕ). replicate n no_tally) (c.nodes.ensures ∙ c.execution.ensures.nodes) in
    subst (AreTalliesBefore log 0) (sym all) (tallies_begin log)

pub returns : goal.returns
returns c =
    let log = c.args.log.now in
    let all : c.loop-position.position ≡ length log.events = omega (arith, c.len-position-end.ensures.value) in
    subst (λ (n : ℕ). AreTalliesBefore log n c.loop-position.tallies.items) all c.loop-position.invariant
