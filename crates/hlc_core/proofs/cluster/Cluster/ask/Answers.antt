use Rattle.std.proofs.Common.{◌∙◌, subst, sym}
use Rattle.std.proofs.lemmas.Result.{err_from_is_err_and}
use Rattle.hlc_arena.specs.History.{EventKind}
use Rattle.hlc_core.specs.Effect.{effect_event}
use Rattle.hlc_core.specs.Lawful.{IsLawfulNext}
use Rattle.hlc_core.specs.Request.{request_of_ref}
use Rattle.hlc_core.specs.Step.{PassesCommon, event_with}
use Rattle.hlc_core.proofs.Answering.{answered_by_effect, refused_by_common, refused_by_drift_of, refused_by_own}
use Rattle.hlc_core.proofs.Counters.{answer_counts}
use Rattle.hlc_core.proofs.Drifts.{within_if_not_exceeded}
use Rattle.hlc_core.proofs.Passed.{common_passed}
use Rattle.hlc_core.proofs.Steps.{lawful_next}
use Rattle.hlc_core.proofs.cluster.Cluster.ask.Goals.{In_ok-effect}
use Rattle.hlc_core.proofs.cluster.Cluster.ask.Goals as goal

pub returns-in-Some-clause-answer : goal.returns-in-Some-clause-answer
returns-in-Some-clause-answer c =
    refused_by_common c.args.self.now c.args.node.0 c.args.reading (request_of_ref c.args.action) c.in-Some.refusal
    (sym c.common_refusal.ensures.value ∙ c.in-Some.is)

pub returns-in_err-effect-clause-answer : goal.returns-in_err-effect-clause-answer
returns-in_err-effect-clause-answer c =
    let request = request_of_ref c.args.action in
    let passes : PassesCommon c.args.self.now c.args.node.0 c.args.reading = sym c.common_refusal.ensures.value ∙ c.in_default.is in
    let refusal = c.in_err-effect.field-0.0 in
    let answer = refused_by_own c.args.self.now c.args.node.0 c.args.reading request passes refusal c.in_err-effect.ensures in
    let refused = err_from_is_err_and c.from_residual.result c.from_residual.ensures.1 in
    rw (refused.1, refused.2) answer

passes_common : (c : In_ok-effect) → PassesCommon c.args.self.now c.args.node.0 c.args.reading
passes_common c = sym c.common_refusal.ensures.value ∙ c.in_default.is

-- the event of what a request makes happen may come next
effect_next : (c : In_ok-effect) →
    IsLawfulNext c.args.self.now.history.nodes c.args.self.now.history.events
    (effect_event c.args.self.now c.args.node.0 c.args.reading c.in_ok-effect.effect)
effect_next c =
    let s = c.args.self.now in
    let node = c.args.node.0 in
    let reading = c.args.reading in
    let effect = c.in_ok-effect.ensures in
    let passed = common_passed s node reading (passes_common c) in
    let next = lawful_next s node reading c.common_refusal.ensures.sound.lawful passed (request_of_ref c.args.action) effect.passes in
    subst (λ (k : EventKind). IsLawfulNext s.history.nodes s.history.events (event_with node reading k)) (sym effect.kind) next

pub is_too_far-requires-clause-earlier : goal.is_too_far-requires-clause-earlier
is_too_far-requires-clause-earlier c =
    (effect_next (goal.at.is_too_far-requires-clause-earlier c).In_ok-effect).follows.names.earlier.delivered

pub returns-then-is_too_far-clause-answer : goal.returns-then-is_too_far-clause-answer
returns-then-is_too_far-clause-answer c =
    let passes = passes_common (goal.at.returns-then-is_too_far-clause-answer c).In_ok-effect in
    refused_by_drift_of c.in_ok-effect.ensures c.args.reading passes (sym c.is_too_far.ensures ∙ c.if-is_too_far.true)

pub carry_out-requires-clause-ends : goal.carry_out-requires-clause-ends
carry_out-requires-clause-ends c = c.in_ok-effect.ensures.ends

pub carry_out-requires-clause-next : goal.carry_out-requires-clause-next
carry_out-requires-clause-next c =
    let s = c.args.self.now in
    let at = (goal.at.carry_out-requires-clause-next c).In_ok-effect in
    record {
      room = (common_passed s c.args.node.0 c.args.reading (passes_common at)).room;
      lawful = effect_next at;
      near = within_if_not_exceeded s.limit _ (sym c.is_too_far.ensures ∙ c.if-is_too_far.false);
    }

pub returns-clause-answer : goal.returns-clause-answer
returns-clause-answer c =
    let passes = passes_common (goal.at.returns-clause-answer c).In_ok-effect in
    let near = sym c.is_too_far.ensures ∙ c.if-is_too_far.false in
    answered_by_effect c.in_ok-effect.ensures c.args.reading passes near c.carry_out.result c.carry_out.new.self c.carry_out.ensures.answer

pub returns-clause-counts : goal.returns-clause-counts
returns-clause-counts c =
    answer_counts c.args.self.now c.args.node.0 c.args.reading (request_of_ref c.args.action) c.carry_out.result c.carry_out.new.self
    (returns-clause-answer c) c.carry_out.ensures.sound
