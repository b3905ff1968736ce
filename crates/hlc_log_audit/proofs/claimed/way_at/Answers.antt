use Rattle.std.proofs.Common.{◌≡◌, ◌∙◌, ◌<◌, ℕ, List, length, arith, ap, subst, sym}
use Rattle.std.specs.Prelude.{All, IfOk}
use Rattle.std.proofs.lemmas.Result.{IfOk-weaker}
use Rattle.hlc_stamp.specs.Ids.{places_of}
use Rattle.hlc_causality.specs.Causality.{Skeleton}
use Rattle.hlc_ordered_log.specs.InOrder.{claimed_of, skeleton_of}
use Rattle.hlc_log_audit.specs.ClaimedWay.{claimed_way}
use Rattle.hlc_ordered_log.proofs.EventsInOrder.{length-claimed_of, length-skeleton_of}
use Rattle.hlc_log_audit.proofs.Ways.{claimed_way_within}
use Rattle.hlc_log_audit.proofs.claimed.way_at.Goals as goal

pub claimed_way-requires-clause-exists : goal.claimed_way-requires-clause-exists
claimed_way-requires-clause-exists c =
    let size = length-skeleton_of c.args.log.now c.requires.ordered in
    let same = ap (λ (s : Skeleton). length s) c.execution.ensures.events in
    omega arith

pub claimed_way-requires-clause-one_each : goal.claimed_way-requires-clause-one_each
claimed_way-requires-clause-one_each c =
    length-claimed_of c.args.log.now ∙ sym (ap (λ (s : Skeleton). length s) c.execution.ensures.events)

pub returns-clause-way : goal.returns-clause-way
returns-clause-way c =
    let claimed = claimed_of c.args.log.now in
    let event = c.args.event.0 in
    subst (λ (s : Skeleton). IfOk c.claimed_way.result (λ way. places_of way.items ≡ claimed_way s claimed event)) c.execution.ensures.events
    c.claimed_way.ensures.way

pub returns-clause-events : goal.returns-clause-events
returns-clause-events c =
    let log = c.args.log.now in
    let claimed = claimed_of log in
    let event = c.args.event.0 in
    let size = length-skeleton_of log c.requires.ordered in
    let within = claimed_way_within (skeleton_of log) claimed event (omega arith) in
    IfOk-weaker c.claimed_way.result (λ way. places_of way.items ≡ claimed_way (skeleton_of log) claimed event)
    (λ way. All (λ (k : ℕ). k < length log.events) (places_of way.items))
    (λ way is. subst (λ (events : List ℕ). All (λ (k : ℕ). k < length log.events) events) (sym is)
    (subst (λ (n : ℕ). All (λ (k : ℕ). k < n) (claimed_way (skeleton_of log) claimed event)) size within))
    (returns-clause-way c)
