use Rattle.std.proofs.Common.{◌+◌, arith, rules}
use Rattle.hlc_stamp.specs.Order.{Pair}
use Rattle.hlc_examples.proofs.clocks.pass_message.Goals as goal

-- the send's stamp is least, so it is at most the sender's with one more, or at most the reading with 0
pub merge-delivery-requires-clause-message_room : goal.merge-delivery-requires-clause-message_room
merge-delivery-requires-clause-message_room c =
    let one_more : Pair = record { l = c.args.sender.l; c = c.args.sender.c + 1 } in
    let reading : Pair = record { l = c.args.sent; c = 0 } in
    grind (arith, c.tick-send.ensures.least one_more, c.tick-send.ensures.least reading)

pub returns-clause-above_send : goal.returns-clause-above_send
returns-clause-above_send c = search rules
