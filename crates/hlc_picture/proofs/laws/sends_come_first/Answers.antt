use Rattle.hlc_picture.proofs.Histories.{histories_have_their_nodes, histories_send_first}
use Rattle.hlc_picture.proofs.laws.sends_come_first.Goals as goal

pub returns : goal.returns
returns c = record { first = histories_send_first; nodes = histories_have_their_nodes }
