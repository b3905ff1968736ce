use Rattle.std.proofs.Common.{◌∙◌, ◌++◌, ◌∷◌, [], ◌<◌, List, Option, append-nil, ap, arith, length, sym, take}
use Rattle.std.specs.List.{filter_map}
use Rattle.std.specs.Option.{option_to_list}
use Rattle.hlc_open_log.specs.Unopened.{bad_event}
use Rattle.hlc_open_log.specs.declared.bad_event.BadEvent.{BadEvent}
use Rattle.hlc_open_log.proofs.OrderFaults.{picked_more}
use Rattle.hlc_open_log.proofs.opening.bad_events.Goals as goal
use Rattle.hlc_open_log.proofs.opening.bad_events.Goals.{in-Some+in_ok-push, in_default}

pub loop-fault-preserved : goal.loop-fault-preserved
loop-fault-preserved c =
    let pick = bad_event c.args.files.now c.args.names.now c.args.log.now.events in
    let within : c.loop-fault.fault-index < length c.args.faults.now = omega arith in
    let more = picked_more pick c.args.faults.now c.loop-fault.fault-index _ within in
    let before = filter_map pick (take c.loop-fault.fault-index c.args.faults.now) in
    elim c.match-branch-2.branch [
      | in-Some+in_ok-push w ↦
          ap (λ v. v.items) w.events-is ∙ w.in_ok-push.ensures.items ∙ ap (λ (told : List BadEvent). told ++ w.in-Some.event ∷ []) c.loop-fault.invariant
          ∙ ap (λ (o : Option BadEvent). before ++ option_to_list o) (sym w.in-Some.is ∙ c.in_ok-event.ensures) ∙ sym more
      | in_default w ↦
          ap (λ v. v.items) w.events-is ∙ c.loop-fault.invariant ∙ sym (append-nil before)
          ∙ ap (λ (o : Option BadEvent). before ++ option_to_list o) (sym w.in_default.is ∙ c.in_ok-event.ensures) ∙ sym more
    ]
