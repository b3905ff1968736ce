use Rattle.std.proofs.Common.{◌<◌, ℕ}
use Rattle.hlc_log.specs.CausalOrder.{ComesAfterSend}
use Rattle.hlc_log.specs.Messages.{ReceivesUnsent}
use Rattle.hlc_log.proofs.logged_order.sends_come_first.Given as goal

abbrev pub invariant-loop-place : goal.invariant-loop-place
invariant-loop-place l = record {
  first : (f : ℕ) → f < l.place → ComesAfterSend l.log.events f;
  sent : (f : ℕ) → f < l.place → ¬ ReceivesUnsent l.log.events f;
}
