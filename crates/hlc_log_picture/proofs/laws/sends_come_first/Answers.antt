use Rattle.hlc_log_picture.proofs.PictureLaws.{logs_have_their_nodes, logs_send_first}
use Rattle.hlc_log_picture.proofs.laws.sends_come_first.Goals as goal

pub returns : goal.returns
returns c = record { first = logs_send_first; nodes = logs_have_their_nodes }
