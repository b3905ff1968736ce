use Rattle.std.proofs.Common.{◌≡◌, ◌<◌, ◌∙◌, ℕ, Bool, List, length, get_or, inl, inr, arith, refl, subst, sym, ap}
use Rattle.std.specs.Bool.{OnTrue}
use Rattle.std.proofs.lemmas.Bool.{false≢true}
use Rattle.hlc_stamp.specs.declared.id.NodeId.{NodeId}
use Rattle.hlc_stamp.specs.declared.id.EventId.{EventId}
use Rattle.hlc_causality.specs.Causality.{skeleton_at}
use Rattle.hlc_explain.specs.Frontier.{IsFrontier, IsInRest}
use Rattle.hlc_explain.specs.declared.frontier.Frontier.{Frontier}
use Rattle.hlc_explain.proofs.Frontiers.{rest_is_latest, up_to, within_is_behind}
use Rattle.hlc_explain.proofs.KeptEvents.{node_kept}
use Rattle.hlc_explain.proofs.Reaching.{not_before, past_happened_before}
use Rattle.hlc_explain.proofs.causality.happened_before.Goals as goal
use Rattle.hlc_explain.proofs.causality.happened_before.Goals.{then-latest-earlier-via-then-latest-earlier, then-latest-earlier-via-else-latest-earlier+then-not-pass}

pub loop-earlier-init : goal.loop-earlier-init
loop-earlier-init c =
    let s = c.args.execution.now.events in
    let e = c.args.earlier.0 in
    let ends = c.args.ends.now in
    let past = c.around-frontier.ensures.past ends c.requires.clear e in
    record {
      frontier = c.around-frontier.ensures.frontier ends c.requires.enough c.requires.clear;
      before = (λ h. past.1 (inr h), λ rest. past_happened_before s e c.args.later.0 c.requires.earlier (past.0 rest));
    }

pub loop-earlier-preserved : goal.loop-earlier-preserved
loop-earlier-preserved c =
    let s = c.args.execution.now.events in
    let after = c.if-latest-earlier.false in
    let latest = ap (λ (id : EventId). id.0) c.latest.ensures in
    let on = c.if-not-pass.false in
    let rest = c.pass.ensures.rest c.args.earlier.0 (omega arith) in
    let before = c.loop-earlier.invariant.before in
    record {
      frontier = subst (λ (b : Bool). OnTrue b (IsFrontier s c.pass.new.ends c.pass.new.self)) on c.pass.ensures.frontier;
      before = (λ h. (rest.0 (before.0 h)).1, λ h. before.1 (rest.1 (on, h)));
    }

pub returns-then-latest-earlier-clause-before : goal.returns-then-latest-earlier-clause-before
returns-then-latest-earlier-clause-before c =
    let s = c.args.execution.now.events in
    let e = c.args.earlier.0 in
    let frontier : Frontier = c.loop-earlier.frontier in
    let ends : List ℕ = c.loop-earlier.ends in
    let invariant = c.loop-earlier.invariant in
    let node = node_kept s e c.get.result c.unwrap.result c.unwrap.ensures c.get.ensures.event in
    let off = c.loop-earlier-test.true in (
      λ no. absurd (false≢true no),
      λ h. elim c.then-latest-earlier.branch [
        | then-latest-earlier-via-then-latest-earlier w ↦
            let le = w.if-latest-earlier.true in
            let latest = ap (λ (id : EventId). id.0) c.latest.ensures in
            let same : frontier.latest.0 ≡ e = rest_is_latest s ends frontier e invariant.frontier (omega arith) (invariant.before.0 h) in
            let at : frontier.node.0 ≡ c.unwrap.result.node.0 =
            sym invariant.frontier.at_node ∙ ap (λ (x : ℕ). (skeleton_at s x).node) same ∙ node in
            let nodes : frontier.node ≡ c.unwrap.result.node = ap (λ (n : ℕ). let id : NodeId = record { 0 = n } in id) at in
            sym off ∙ c.has.ensures.1 (inl (nodes, omega arith))
        | then-latest-earlier-via-else-latest-earlier+then-not-pass w ↦
            let after = w.if-latest-earlier.false in
            let latest = ap (λ (id : EventId). id.0) c.latest.ensures in
            sym w.if-not-pass.true ∙ ((w.pass.ensures.rest e (omega arith)).0 (invariant.before.0 h)).0
      ],
    )

pub returns-clause-before : goal.returns-clause-before
returns-clause-before c =
    let s = c.args.execution.now.events in
    let e = c.args.earlier.0 in
    let frontier : Frontier = c.loop-earlier.frontier in
    let ends : List ℕ = c.loop-earlier.ends in
    let invariant = c.loop-earlier.invariant in
    let node = node_kept s e c.get.result c.unwrap.result c.unwrap.ensures c.get.ensures.event in
    let rest : IsInRest s ends frontier e = elim (c.has.ensures.0 c.loop-earlier-test.false) [
      | inl (at, le) ↦
          inl (up_to s e frontier.latest.0 le invariant.frontier.exists (node ∙ sym (ap (λ (id : NodeId). id.0) at) ∙ sym invariant.frontier.at_node))
      | inr lt ↦
          let before = c.requires.earlier in
          let to = c.requires.exists in
          let exists : e < length s = omega arith in
          inr (within_is_behind s ends e exists (subst (λ (n : ℕ). e < get_or ends n 0) (sym node) lt))
    ] in
    (λ _. invariant.before.1 rest, λ _. refl)

pub returns-then-latest-earlier-clause-not_after : goal.returns-then-latest-earlier-clause-not_after
returns-then-latest-earlier-clause-not_after c h =
    not_before c.args.execution.now.events c.args.later.0 c.args.earlier.0 (omega (arith, c.requires.earlier)) h

pub returns-clause-not_after : goal.returns-clause-not_after
returns-clause-not_after c h = not_before c.args.execution.now.events c.args.later.0 c.args.earlier.0 (omega (arith, c.requires.earlier)) h
