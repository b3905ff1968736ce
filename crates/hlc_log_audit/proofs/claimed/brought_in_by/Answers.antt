use Rattle.std.proofs.Common.{◌≡◌, ◌∙◌, List, ℕ, [], ◌∷◌, ◌++◌, None, Some, append-nil, append_assoc, arith, ap, sym}
use Rattle.hlc_log_audit.specs.ClaimedWay.{claimed_way, source_of}
use Rattle.hlc_log_audit.proofs.Ways.{source_earlier, way_end, way_step}
use Rattle.hlc_log_audit.proofs.claimed.brought_in_by.Goals as goal

pub loop-before-init : goal.loop-before-init
loop-before-init g c = record {
  exists = c.requires.exists;
  rest = ([], sym (append-nil (claimed_way c.args.execution.now.events (g.C.Claims.claimed c.args.claims.now) c.args.event.0)));
}

pub loop-before-smaller : goal.loop-before-smaller
loop-before-smaller g c =
    let s = c.args.execution.now.events in
    let claimed = g.C.Claims.claimed c.args.claims.now in
    let at = c.loop-before.at in
    let before = c.in-Some.before in
    let is : source_of s claimed at.0 ≡ Some before.0 = sym c.in-Some.ensures in
    let earlier = source_earlier s claimed at.0 c.loop-before.invariant.exists before.0 is in
    omega arith

pub loop-before-preserved : goal.loop-before-preserved
loop-before-preserved g c =
    let s = c.args.execution.now.events in
    let claimed = g.C.Claims.claimed c.args.claims.now in
    let at = c.loop-before.at in
    let before = c.in-Some.before in
    let h = c.loop-before.invariant in
    let is : source_of s claimed at.0 ≡ Some before.0 = sym c.in-Some.ensures in
    let earlier = source_earlier s claimed at.0 h.exists before.0 is in
    record {
      exists = omega arith;
      rest = (
        at.0 ∷ h.rest.0,
        h.rest.1 ∙ ap (λ (xs : List ℕ). xs ++ h.rest.0) (way_step s claimed before.0 at.0 h.exists is)
            ∙ append_assoc (claimed_way s claimed before.0) (at.0 ∷ []) h.rest.0,
      );
    }

pub returns-clause-first : goal.returns-clause-first
returns-clause-first g c =
    let s = c.args.execution.now.events in
    let claimed = g.C.Claims.claimed c.args.claims.now in
    let at = c.loop-before.at in
    let h = c.loop-before.invariant in
    let none : source_of s claimed at.0 ≡ None = sym c.in_default.ensures in
    (h.rest.0, h.rest.1 ∙ ap (λ (xs : List ℕ). xs ++ h.rest.0) (way_end s claimed at.0 none))
