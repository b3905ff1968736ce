use Rattle.std.proofs.Common.{◌∙◌, ◌<◌, List, length, subst, sym}
use Rattle.std.specs.Prelude.{All}
use Rattle.hlc_log.specs.declared.order_fault.OrderFault.{OrderFault}
use Rattle.hlc_open_log.specs.Unopened.{order_fault_place}
use Rattle.hlc_open_log.proofs.OrderFaults.{told_named}
use Rattle.hlc_open_log.proofs.opening.bad_order.Goals as goal

pub bad_events-requires : goal.bad_events-requires
bad_events-requires c =
    let events = c.args.log.now.events in
    subst (λ (faults : List OrderFault). All (λ fault. order_fault_place fault < length events) faults)
    (sym (c.deref.ensures.value ∙ c.in_ok-faults.ensures)) (told_named c.args.rule events c.args.fault c.requires.fault c.requires.known)
