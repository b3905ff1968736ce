use Rattle.hlc_log_text.proofs.NameFacts.{tells_receive, tells_send}
use Rattle.hlc_log_text.proofs.partial_log.number_message.Goals as goal

pub returns-in_ok-number_name-in-Send : goal.returns-in_ok-number_name-in-Send
returns-in_ok-number_name-in-Send c =
    let is = c.in_ok-number_name-in-Send.ensures in
    rw c.in-Send.is
    (tells_send c.args.messages.now c.number_name.new.messages c.args.name.now c.in_ok-number_name-in-Send.field-0 is.0 is.1)

pub returns-in_ok-number_name-in-Receive : goal.returns-in_ok-number_name-in-Receive
returns-in_ok-number_name-in-Receive c =
    let is = c.in_ok-number_name-in-Receive.ensures in
    rw c.in-Receive.is
    (tells_receive c.args.messages.now c.number_name-in-Receive.new.messages c.args.name.now c.in_ok-number_name-in-Receive.field-0 is.0 is.1)
