use Rattle.std.proofs.Common.{◌≡◌, ◌∙◌, ◌<◌, List, [], ◌∷◌, Option, Some, length, reverse, arith, ap, subst, sym}
use Rattle.std.specs.Prelude.{IfSome}
use Rattle.hlc_stamp.specs.Ids.{places_of}
use Rattle.hlc_stamp.specs.declared.id.EventId.{EventId}
use Rattle.hlc_explain.proofs.ForcingSteps.{reverse_push}
use Rattle.hlc_explain.proofs.PathLengths.{followed_first, followed_more, followed_whole, step_is_there}
use Rattle.hlc_explain.proofs.paths.PathLengths.followed_back.Goals as goal

pub push_reserved-requires : goal.push_reserved-requires
push_reserved-requires c =
    let s = c.args.execution.now.events in
    let back = followed_first s c.args.self.now.first.0 c.args.last.0 c.in-Some.length c.requires.exists (c.in-Some.ensures s c.requires.known) in
    omega (arith, back.1, c.in_ok-path.ensures.len, c.in_ok-path.ensures.capacity)

pub loop-step-init : goal.loop-step-init
loop-step-init c =
    let s = c.args.execution.now.events in
    let last = c.args.last in
    let back = followed_first s c.args.self.now.first.0 last.0 c.in-Some.length c.requires.exists (c.in-Some.ensures s c.requires.known) in
    let new = c.in_ok-path.ensures in
    let pushed = c.push_reserved.ensures in
    let reversed = reverse_push c.in_ok-path.path.items c.push_reserved.new.self.items last pushed.items in
    record {
      within = omega arith;
      kept = omega (arith, pushed.len, new.len);
      room = omega (arith, pushed.capacity, new.capacity);
      back = (back.0, [], omega (arith, back.1), reversed ∙ ap (λ (ids : List EventId). last ∷ reverse ids) new.items, back.2);
    }

pub step_back-requires-clause-exists : goal.step_back-requires-clause-exists
step_back-requires-clause-exists c = omega (arith, c.loop-step.invariant.within, c.requires.exists)

pub step_back-requires-clause-within : goal.step_back-requires-clause-within
step_back-requires-clause-within c = omega (arith, c.loop-step.invariant.within, c.requires.within)

pub unwrap-at-requires : goal.unwrap-at-requires
unwrap-at-requires c =
    let h = c.loop-step.invariant in
    let at = c.loop-step.at in
    let exists : at.0 < length c.args.execution.now.events = omega (arith, h.within, c.requires.exists) in
    step_is_there c.args.execution.now.events c.args.self.now.first.0 c.args.last.0 at exists h.back.0 h.back.1 h.back.4 c.step_back.result
    (omega (arith, h.back.2, c.loop-step-test.true)) c.step_back.ensures.path

pub push_reserved-requires-in-loop-step : goal.push_reserved-requires-in-loop-step
push_reserved-requires-in-loop-step c =
    let h = c.loop-step.invariant in omega (arith, h.kept, h.room, c.loop-step-test.true)

pub loop-step-preserved : goal.loop-step-preserved
loop-step-preserved c =
    let s = c.args.execution.now.events in
    let h = c.loop-step.invariant in
    let at = c.loop-step.at in
    let before = c.unwrap-at.result in
    let exists : at.0 < length s = omega (arith, h.within, c.requires.exists) in
    let back =
    followed_more s c.args.self.now.first.0 c.args.last.0 at exists h.back.0 h.back.1 h.back.4 c.step_back.result
    (omega (arith, h.back.2, c.loop-step-test.true)) c.step_back.ensures.path before c.unwrap-at.ensures in
    let earlier = subst (λ (o : Option EventId). IfSome o (λ d. d.0 < at.0)) c.unwrap-at.ensures c.step_back.ensures.earlier in
    let pushed = c.push_reserved-in-loop-step in
    let reversed = reverse_push c.loop-step.path.items pushed.new.self.items before pushed.ensures.items in
    record {
      within = omega (arith, h.within, earlier);
      kept = omega (arith, h.kept, pushed.ensures.len);
      room = omega (arith, h.room, pushed.ensures.capacity);
      back = (
        back.0,
        at ∷ h.back.1,
        omega (arith, back.1, h.back.2),
        reversed ∙ ap (λ (ids : List EventId). before ∷ ids) h.back.3,
        back.2,
      );
    }

pub returns : goal.returns
returns c =
    let s = c.args.execution.now.events in
    let h = c.loop-step.invariant in
    let at = c.loop-step.at in
    let exists : at.0 < length s = omega (arith, h.within, c.requires.exists) in
    let done : h.back.0 ≡ 0 = omega (arith, h.back.2, c.loop-step-test.false) in
    ap (λ (ids : List EventId). Some (places_of ids)) (c.reverse.ensures.items ∙ h.back.3)
    ∙ sym (followed_whole s c.args.self.now.first.0 c.args.last.0 at exists h.back.0 h.back.1 h.back.4 done)
