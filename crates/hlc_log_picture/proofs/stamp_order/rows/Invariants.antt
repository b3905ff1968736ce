use Rattle.hlc_log_picture.specs.StampOrder.{AreRows}
use Rattle.hlc_log_picture.proofs.stamp_order.rows.Given as goal

-- the rows of the events so far
abbrev pub invariant-loop-place : goal.invariant-loop-place
invariant-loop-place l = AreRows l.log l.place l.rows.items
