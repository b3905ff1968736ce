use Rattle.std.proofs.Common.{◌≡◌, ◌∙◌, ℕ, List, Option, None, Some, length, replicate, ap, arith, refl, subst, sym}
use Rattle.hlc_log_audit.specs.OverLimit.{AreOversBefore}
use Rattle.hlc_log_audit.specs.declared.over.Over.{Over}
use Rattle.hlc_log_audit.proofs.OverLimits.{overs_begin}
use Rattle.hlc_log_audit.proofs.overs.overs_of.Goals as goal

pub loop-place-init : goal.loop-place-init
loop-place-init c =
    let nodes = c.args.log.now.nodes in
    let none : List (Option Over) = replicate nodes None in
    let all : c.in_ok-overs.overs.items ≡ none =
    c.in_ok-overs.ensures.items_if_clones_equal (elim [ None ↦ λ same. refl | Some over ↦ λ same. absurd same ])
    ∙ ap (λ (n : ℕ). replicate n None) (c.nodes.ensures ∙ c.execution.ensures.nodes) in
    subst (AreOversBefore c.args.limit nodes c.args.log.now.events 0) (sym all) (overs_begin c.args.limit c.args.log.now.events nodes)

pub returns : goal.returns
returns c =
    let all = c.loop-place-test.false in
    let end = c.len-place-end.ensures.value in
    let last = c.loop-place.auto.place-end in
    let events = c.args.log.now.events in
    let same : c.loop-place.place ≡ length events = omega arith in
    subst (λ (n : ℕ). AreOversBefore c.args.limit c.args.log.now.nodes events n c.loop-place.overs.items) same c.loop-place.invariant
