use Rattle.std.proofs.Common.{◌≡◌, ◌∙◌, arith, sym, ap, Option}
use Rattle.std.specs.Prelude.{option_map, unwrap_or}
use Rattle.hlc_stamp.specs.declared.id.EventId.{EventId}
use Rattle.hlc_stamp.specs.Order.{Pair}
use Rattle.hlc_arena.specs.History.{stamp_at}
use Rattle.hlc_core.specs.Limit.{message_l}
use Rattle.hlc_core.proofs.Drifts.{last_l_is, message_l_is}
use Rattle.hlc_core.proofs.clock.next_drift.Goals as goal
use Rattle.hlc_core.proofs.clock.next_drift.Goals.{in-Some, in-None}

pub returns : goal.returns
returns c = λ kind is.
    let events = c.args.history.now.events in
    let named = c.last_stamp-last.ensures in
    let last = last_l_is events c.args.node.0 named.0 c.last_stamp-last.result named.1 named.2 in
    let sent_l = λ (o : Option EventId). unwrap_or (option_map (λ (s : EventId). (stamp_at events s.0).l) o) 0 in
    let message : c.match-send.message ≡ message_l events kind = elim c.match-send.branch [
      | in-Some w ↦ w.message-is ∙ ap (λ (p : Pair). p.l) w.stamp_of.ensures
          ∙ sym (message_l_is events kind c.args.send is ∙ ap sent_l w.in-Some.is)
      | in-None w ↦ w.message-is ∙ sym (message_l_is events kind c.args.send is ∙ ap sent_l w.in-None.is)
    ] in
    grind (arith, last, message, c.max.ensures, c.saturating_sub.ensures)
