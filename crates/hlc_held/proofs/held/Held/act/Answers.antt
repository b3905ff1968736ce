use Rattle.std.proofs.lemmas.Grind.{common_steps}
use Rattle.std.proofs.Common.{◌≡◌, ◌∙◌, ◌⊎◌, ℕ, None, Some, inl, inr, ap, arith, subst}
use Rattle.std.proofs.lemmas.Result.{err_from_is_err_and}
use Rattle.hlc_core.specs.Request.{Request, request_of, request_of_ref}
use Rattle.hlc_core.specs.Step.{Accepts, Refuses, first_refusal, refusal_of}
use Rattle.hlc_core.specs.declared.refusal.Refusal.TheVariants.{Memory}
use Rattle.hlc_held.specs.Seats.{NodeLog}
use Rattle.hlc_held.specs.StatelessRefusals.{IsDue, stateless_refusals}
use Rattle.hlc_held.proofs.LogFacts.{act_count-pushed}
use Rattle.hlc_held.proofs.held.Held.act.Goals as goal

pub invariant_of-seat-2 : goal.invariant_of-seat-2
invariant_of-seat-2 g c =
    let more = act_count-pushed c.reserve.new.self.items c.push_reserved.new.self.items _ c.push_reserved.ensures.items in
    let same = rw c.reserve.ensures.items at more in
    let counted = c.in_ok-accepted.ensures.counted in
    record { node = c.seat.invariant.node; part = counted.1 ∙ c.seat.invariant.part; counted = omega (arith, same, counted.0, c.seat.invariant.counted) }

pub returns-in_err-accepted-clause-refused : goal.returns-in_err-accepted-clause-refused
returns-in_err-accepted-clause-refused g c =
    let s = c.args.self.now in
    let e = c.in_err-accepted.field-0.0 in
    let from = err_from_is_err_and c.from_residual-in_err-accepted.result c.from_residual-in_err-accepted.ensures.1 in
    let node : c.seat.inside.node.0 ≡ c.args.seat.now.node = ap (λ (seat : NodeLog). seat.node) c.seat.view_is in
    let refused : Refuses s c.args.seat.now.node c.args.reading (request_of c.args.action) e =
    subst (λ (n : ℕ). Refuses s n c.args.reading (request_of c.args.action) e) node (rw c.as_ref.ensures at c.in_err-accepted.ensures.refused) in
    let answer : (refusal_of s c.args.seat.now.node c.args.reading (request_of c.args.action) ≡ Some e) ⊎ (e ≡ Memory) =
    elim refused [ inl is ↦ inl is | inr memory ↦ inr memory.0 ] in
    rw (from.1, from.2) answer

pub returns-in_err-accepted-clause-due : goal.returns-in_err-accepted-clause-due
returns-in_err-accepted-clause-due g c =
    let group = g.L.Group in
    let e = c.in_err-accepted.field-0.0 in
    let from = err_from_is_err_and c.from_residual-in_err-accepted.result c.from_residual-in_err-accepted.ensures.1 in
    let node : c.seat.inside.node.0 ≡ c.args.seat.now.node = ap (λ (seat : NodeLog). seat.node) c.seat.view_is in
    let due : IsDue group.nodes group.limit c.args.seat.now.node c.args.reading (request_of_ref c.as_ref.result) e =
    subst (λ (n : ℕ). IsDue group.nodes group.limit n c.args.reading (request_of_ref c.as_ref.result) e) node c.in_err-accepted.ensures.due in
    rw (from.1, from.2) (subst (λ (r : Request). IsDue group.nodes group.limit c.args.seat.now.node c.args.reading r e) c.as_ref.ensures due)

pub returns-clause-accepted : goal.returns-clause-accepted
returns-clause-accepted g c =
    let node : c.seat.inside.node.0 ≡ c.args.seat.now.node = ap (λ (seat : NodeLog). seat.node) c.seat.view_is in
    subst (λ (n : ℕ). Accepts c.args.self.now n c.args.reading (request_of c.args.action) c.in_ok-accepted.accepted c.ask.new.self) node
    (rw c.as_ref.ensures at c.in_ok-accepted.ensures.accepted)

pub returns-clause-none_holds : goal.returns-clause-none_holds
returns-clause-none_holds g c =
    let node : c.seat.inside.node.0 ≡ c.args.seat.now.node = ap (λ (seat : NodeLog). seat.node) c.seat.view_is in
    subst (λ (n : ℕ). first_refusal (stateless_refusals g.L.Group.nodes n c.args.reading (request_of c.args.action)) ≡ None) node
    (rw c.as_ref.ensures at c.in_ok-accepted.ensures.none_holds)

pub returns-clause-logged : goal.returns-clause-logged
returns-clause-logged g c = grind (arith, common_steps)
