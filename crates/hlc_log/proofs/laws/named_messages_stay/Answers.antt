use Rattle.hlc_log.proofs.ToldApart.{named_stay}
use Rattle.hlc_log.proofs.laws.named_messages_stay.Goals as goal

pub returns : goal.returns
returns c unnamed messages senders events named = named_stay unnamed messages senders events 0 events named
