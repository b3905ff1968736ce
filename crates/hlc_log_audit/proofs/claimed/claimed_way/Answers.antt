use Rattle.std.proofs.Common.{◌≡◌, ◌∙◌, List, ℕ, [], ◌∷◌, ◌++◌, None, Some, append_assoc, arith, ap, subst, sym}
use Rattle.hlc_stamp.specs.Ids.{places_of}
use Rattle.hlc_stamp.specs.declared.id.EventId.{EventId}
use Rattle.hlc_explain.proofs.ForcingSteps.{reverse_push}
use Rattle.hlc_log_audit.specs.ClaimedWay.{IsWayOfL, claimed_way, source_of}
use Rattle.hlc_log_audit.proofs.Ways.{claimed_way_is, source_earlier, way_end, way_step}
use Rattle.hlc_log_audit.proofs.claimed.claimed_way.Goals as goal

pub loop-before-smaller : goal.loop-before-smaller
loop-before-smaller g c =
    let s = c.args.execution.now.events in
    let claimed = g.C.Claims.claimed c.args.claims.now in
    let at = c.loop-before.at in
    let before = c.in-Some.before in
    let is : source_of s claimed at.0 ≡ Some before.0 = sym c.in-Some.ensures in
    let earlier = source_earlier s claimed at.0 c.loop-before.invariant.exists before.0 is in
    omega arith

pub loop-before-preserved : goal.loop-before-preserved
loop-before-preserved g c =
    let s = c.args.execution.now.events in
    let claimed = g.C.Claims.claimed c.args.claims.now in
    let at = c.loop-before.at in
    let before = c.in-Some.before in
    let h = c.loop-before.invariant in
    let rest = places_of h.rest.0 in
    let is : source_of s claimed at.0 ≡ Some before.0 = sym c.in-Some.ensures in
    let earlier = source_earlier s claimed at.0 h.exists before.0 is in
    record {
      exists = omega arith;
      rest = (
        at ∷ h.rest.0,
        reverse_push c.loop-before.way.items c.push-in-Some.new.self.items before c.in_ok-push-2.ensures.items
            ∙ ap (λ (ids : List EventId). before ∷ ids) h.rest.1,
        h.rest.2 ∙ ap (λ (xs : List ℕ). xs ++ rest) (way_step s claimed before.0 at.0 h.exists is)
            ∙ append_assoc (claimed_way s claimed before.0) (at.0 ∷ []) rest,
      );
    }

pub returns-clause-way : goal.returns-clause-way
returns-clause-way g c =
    let s = c.args.execution.now.events in
    let claimed = g.C.Claims.claimed c.args.claims.now in
    let at = c.loop-before.at in
    let h = c.loop-before.invariant in
    let rest = places_of h.rest.0 in
    let none : source_of s claimed at.0 ≡ None = sym c.in_default.ensures in
    let is : at.0 ∷ rest ≡ claimed_way s claimed c.args.event.0 =
    sym (h.rest.2 ∙ ap (λ (xs : List ℕ). xs ++ rest) (way_end s claimed at.0 none)) in
    ap places_of (c.reverse.ensures.items ∙ h.rest.1) ∙ is

pub returns-clause-brings : goal.returns-clause-brings
returns-clause-brings g c =
    let s = c.args.execution.now.events in
    let claimed = g.C.Claims.claimed c.args.claims.now in
    let event = c.args.event.0 in
    subst (IsWayOfL s claimed event) (sym (returns-clause-way g c)) (claimed_way_is s claimed event c.requires.exists)
