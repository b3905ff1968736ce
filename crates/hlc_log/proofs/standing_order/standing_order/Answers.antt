use Rattle.std.proofs.Common.{◌∙◌, List, ap, map}
use Rattle.hlc_log.specs.declared.standing_order.Standing.{Standing}
use Rattle.hlc_log.proofs.StandingOrders.{sorted_stand}
use Rattle.hlc_log.proofs.standing_order.standing_order.Goals as goal

pub returns : goal.returns
returns c =
    sorted_stand c.args.log.now.events c.in_ok-standings.standings.items c.sort_unstable.new.self.items c.in_ok-standings.ensures
    c.sort_unstable.ensures.permutation c.sort_unstable.ensures.sorted c.in_ok-places.places.items
    (c.in_ok-places.ensures ∙ ap (λ (rows : List Standing). map (λ (row : Standing). row.place) rows) c.deref.ensures.value)
