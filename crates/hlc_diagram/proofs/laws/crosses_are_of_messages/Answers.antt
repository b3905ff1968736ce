use Rattle.hlc_diagram.proofs.Crosses.{crosses_are_of_messages, crosses_keep_clear, each_message_has_its_cross, nothing_else_changes}
use Rattle.hlc_diagram.proofs.laws.crosses_are_of_messages.Goals as goal

pub returns : goal.returns
returns c = record {
  each = each_message_has_its_cross;
  only = crosses_are_of_messages;
  clear = crosses_keep_clear;
  same = nothing_else_changes;
}
