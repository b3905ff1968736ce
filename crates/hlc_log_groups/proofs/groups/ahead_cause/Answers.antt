use Rattle.std.proofs.Common.{◌≡◌, ◌∙◌, Some, ap, sym}
use Rattle.std.specs.Prelude.{Option, option_map}
use Rattle.hlc_stamp.specs.declared.id.EventId.{EventId}
use Rattle.hlc_stamp.specs.Order.{Pair}
use Rattle.hlc_log.specs.OrderSkeleton.{index_in}
use Rattle.hlc_log_groups.specs.Followed.{followed_in}
use Rattle.hlc_log_groups.specs.Groups.{KeyedCause, cause_at, id_of}
use Rattle.hlc_log_groups.specs.declared.broken_rule.BrokenRule.TheVariants.{Ahead}
use Rattle.hlc_log_groups.proofs.GroupSteps.{id_of-place_of}
use Rattle.hlc_log_groups.proofs.groups.ahead_cause.Goals as goal

pub returns-in-Some-clause-value : goal.returns-in-Some-clause-value
returns-in-Some-clause-value c =
    let log = c.args.log.now in
    let e = c.args.place.0 in
    let before : c.followed-before.result ≡ id_of (followed_in log (index_in log.order e)) =
    sym (id_of-place_of c.followed-before.result) ∙ ap id_of (c.followed-before.ensures.value ∙ ap (followed_in log) c.position.ensures.index) in
    ap (λ (cause : KeyedCause). Some cause) (c.cause_at.ensures ∙ ap (λ (o : Option EventId). cause_at log e Ahead o) before)
    ∙ sym (ap (option_map (λ (p : Pair). cause_at log e Ahead (id_of (followed_in log (index_in log.order e))))) c.in-Some.is)
