use Rattle.std.proofs.Common.{◌+◌}
use Rattle.hlc_stamp.specs.Order.{zero_pair}
use Rattle.hlc_packed.specs.Packed.{unpacked}
use Rattle.hlc_packed.proofs.RestartFacts.{given_rise}
use Rattle.hlc_packed.proofs.StepFacts.{below_next_first}
use Rattle.hlc_packed.proofs.laws.restarts_keep_order.Goals as goal

pub returns-clause-order : goal.returns-clause-order
returns-clause-order c acts kept = given_rise zero_pair zero_pair acts kept

pub returns-clause-windows : goal.returns-clause-windows
returns-clause-windows c bits clock window n = below_next_first bits ((unpacked bits clock).l + window) n
