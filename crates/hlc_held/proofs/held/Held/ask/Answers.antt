use Rattle.std.proofs.Common.{◌≡◌, ◌∙◌, ℕ, ◌<◌, None, Option, arith, refl, subst, sym}
use Rattle.std.proofs.lemmas.Result.{err_from_is_err_and}
use Rattle.hlc_core.specs.Request.{request_of_ref}
use Rattle.hlc_core.specs.State.{State}
use Rattle.hlc_core.specs.Step.{Refuses, first_refusal}
use Rattle.hlc_held.specs.Kept.{IsKept}
use Rattle.hlc_held.specs.StatelessRefusals.{IsDue, stateless_refusals}
use Rattle.hlc_held.proofs.StatelessRefusals.{accepted_none_stateless, refused_due}
use Rattle.hlc_held.proofs.StepFacts.{accepted_counts}
use Rattle.hlc_held.proofs.held.Held.ask.Goals as goal

pub returns-in_err-accepted-clause-due : goal.returns-in_err-accepted-clause-due
returns-in_err-accepted-clause-due g c =
    let state = c.self.inside.cluster in
    let kept = c.self.invariant.0 in
    let here : c.args.node.0 < state.history.nodes = rw kept.nodes_named c.requires.exists in
    let request = request_of_ref c.args.action in
    let e = c.in_err-accepted.field-0.0 in
    let due = refused_due state c.args.node.0 c.args.reading request e here c.in_err-accepted.ensures.answer.0 in
    let of_nodes : IsDue g.L.Group.nodes state.limit c.args.node.0 c.args.reading request e =
    subst (λ (n : ℕ). IsDue n state.limit c.args.node.0 c.args.reading request e) kept.nodes_named due in
    let of_limit : IsDue g.L.Group.nodes g.L.Group.limit c.args.node.0 c.args.reading request e =
    subst (λ (l : Option ℕ). IsDue g.L.Group.nodes l c.args.node.0 c.args.reading request e) kept.limit_named of_nodes in
    let from = err_from_is_err_and c.from_residual.result c.from_residual.ensures.1 in
    rw (from.1, from.2) of_limit

pub invariant_of-self-2 : goal.invariant_of-self-2
invariant_of-self-2 g c =
    let kept = c.self.invariant.0 in
    let counts = accepted_counts c.self.inside.cluster c.ask.new.self c.args.node.0 c.args.reading (request_of_ref c.args.action) c.in_ok-accepted.accepted c.in_ok-accepted.ensures.answer in (
      record {
        sound = c.ask.ensures.sound;
        nodes_named = counts.nodes ∙ kept.nodes_named;
        capacity_named = counts.capacity ∙ kept.capacity_named;
        limit_named = counts.limit ∙ kept.limit_named;
        counted = omega (arith, counts.events, c.add.ensures.total, kept.counted);
      },
      c.self.invariant.1,
      c.self.invariant.2,
      c.self.invariant.3,
    )

pub returns-in_err-accepted-clause-refused : goal.returns-in_err-accepted-clause-refused
returns-in_err-accepted-clause-refused g c =
    let e = c.in_err-accepted.field-0.0 in
    let refused : Refuses c.args.self.now c.args.node.0 c.args.reading (request_of_ref c.args.action) e =
    subst (λ (s : State). Refuses s c.args.node.0 c.args.reading (request_of_ref c.args.action) e) c.self.view_is
    c.in_err-accepted.ensures.answer.0 in
    let from = err_from_is_err_and c.from_residual.result c.from_residual.ensures.1 in
    rw (from.1, from.2) refused

pub returns-in_err-accepted-clause-unchanged : goal.returns-in_err-accepted-clause-unchanged
returns-in_err-accepted-clause-unchanged g c =
    let from = err_from_is_err_and c.from_residual.result c.from_residual.ensures.1 in
    rw from.1 (c.in_err-accepted.ensures.answer.1 ∙ c.self.view_is, refl)

pub invariant_of-self : goal.invariant_of-self
invariant_of-self g c =
    let group = g.L.Group in (
      subst (λ (s : State). IsKept group.nodes group.capacity group.limit s c.self.inside.book.total)
          (sym c.in_err-accepted.ensures.answer.1) c.self.invariant.0,
      c.self.invariant.1,
      c.self.invariant.2,
      c.self.invariant.3,
    )

pub returns-clause-accepted : goal.returns-clause-accepted
returns-clause-accepted g c = rw (← c.self.view_is) c.in_ok-accepted.ensures.answer

pub returns-clause-none_holds : goal.returns-clause-none_holds
returns-clause-none_holds g c =
    let none =
    accepted_none_stateless c.self.inside.cluster c.ask.new.self c.args.node.0 c.args.reading (request_of_ref c.args.action)
    c.in_ok-accepted.accepted c.in_ok-accepted.ensures.answer in
    subst (λ (nodes : ℕ). first_refusal (stateless_refusals nodes c.args.node.0 c.args.reading (request_of_ref c.args.action)) ≡ None)
    c.self.invariant.0.nodes_named none
