use Rattle.std.proofs.lemmas.Result.{IfOk-weaker}
use Rattle.std.proofs.Common.{◌≡◌, ◌∙◌, ◌∷◌, ap, arith, length, subst, sym}
use Rattle.hlc_causality.specs.Causality.{Skeleton}
use Rattle.hlc_ordered_log.specs.InOrder.{claimed_of}
use Rattle.hlc_ordered_log.proofs.EventsInOrder.{length-claimed_of, length-skeleton_of}
use Rattle.hlc_log_audit.specs.ClaimedWay.{claimed_way}
use Rattle.hlc_log_audit.proofs.OverRows.{origin_is}
use Rattle.hlc_log_audit.proofs.overs.told_origin.Goals as goal

pub brought_in_by-first-requires-clause-exists : goal.brought_in_by-first-requires-clause-exists
brought_in_by-first-requires-clause-exists c =
    let size = length-skeleton_of c.args.log.now c.requires.ordered in
    let same = ap (λ (s : Skeleton). length s) c.execution.ensures.events in
    omega (arith, c.position.ensures.exists)

pub brought_in_by-first-requires-clause-one_each : goal.brought_in_by-first-requires-clause-one_each
brought_in_by-first-requires-clause-one_each c =
    length-claimed_of c.args.log.now ∙ sym (ap (λ (s : Skeleton). length s) c.execution.ensures.events)

pub told_line-requires : goal.told_line-requires
told_line-requires c =
    let size = length-skeleton_of c.args.log.now c.requires.ordered in
    let same = ap (λ (s : Skeleton). length s) c.execution.ensures.events in
    omega (arith, c.brought_in_by-first.ensures.exists)

pub returns : goal.returns
returns c =
    let files = c.args.files.now in
    let log = c.args.log.now in
    let k = c.position.result.0 in
    let first = c.brought_in_by-first.result in
    let way = c.brought_in_by-first.ensures.first in
    let here = subst (λ (s : Skeleton). claimed_way s (claimed_of log) k ≡ first.0 ∷ way.0) c.execution.ensures.events way.1 in
    IfOk-weaker c.told_line.result _ _ (λ text is. is
    ∙ sym (origin_is files log c.args.place.0 k first.0 way.0 c.requires.ordered c.requires.rise c.requires.exists c.position.ensures.exists
    c.position.ensures.place here)) c.told_line.ensures
