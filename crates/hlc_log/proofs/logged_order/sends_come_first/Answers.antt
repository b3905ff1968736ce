use Rattle.std.proofs.Common.{arith, rules}
use Rattle.hlc_log.proofs.LoggedOrders.{all_come_after_sends, one_more_comes_after}
use Rattle.hlc_log.proofs.SentMessages.{one_more_is_sent}
use Rattle.hlc_log.proofs.logged_order.sends_come_first.Goals as goal

pub loop-place-preserved : goal.loop-place-preserved
loop-place-preserved c =
    let events = c.args.log.now.events in
    let place = c.loop-place.place in
    record {
      first = one_more_comes_after events place c.loop-place.invariant.first (c.comes_after_send.ensures.first (search rules));
      sent = one_more_is_sent events place c.loop-place.invariant.sent (c.comes_after_send.ensures.sent (search rules));
    }

pub returns-clause-first : goal.returns-clause-first
returns-clause-first c is =
    let size = c.len-place-end.ensures.value in
    let end = c.loop-place-test.false in
    all_come_after_sends c.args.log.now.events c.loop-place.place (omega arith) c.loop-place.invariant.first

pub returns-clause-sent : goal.returns-clause-sent
returns-clause-sent c is f unsent =
    let size = c.len-place-end.ensures.value in
    let end = c.loop-place-test.false in
    let exists = unsent.1.exists in
    c.loop-place.invariant.sent f (omega arith) unsent
