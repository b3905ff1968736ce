use Rattle.hlc_diagram.proofs.Drawn.{arrows_are_of_deliveries, each_delivery_has_one_arrow}
use Rattle.hlc_diagram.proofs.laws.arrows_are_the_deliveries.Goals as goal

pub returns : goal.returns
returns c = record { one = each_delivery_has_one_arrow; only = arrows_are_of_deliveries }
