use Rattle.hlc_held.proofs.OrderFacts.{fresh_seats_are_in_order, logs_are_those_of_seats_in_order}
use Rattle.hlc_held.proofs.laws.seats_in_order.Goals as goal

pub returns-clause-fresh : goal.returns-clause-fresh
returns-clause-fresh c = fresh_seats_are_in_order

pub returns-clause-logs : goal.returns-clause-logs
returns-clause-logs c = logs_are_those_of_seats_in_order
