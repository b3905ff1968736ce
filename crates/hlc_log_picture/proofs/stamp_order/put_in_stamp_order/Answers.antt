use Rattle.std.proofs.Common.{subst, sym}
use Rattle.std.proofs.lemmas.Result.{on_ok_weaker}
use Rattle.hlc_stamp.specs.Ids.{places_of}
use Rattle.hlc_ordered_log.specs.InOrder.{IsInOrder, LogInOrder}
use Rattle.hlc_log_picture.specs.StampOrder.{AreRanked}
use Rattle.hlc_log_picture.proofs.StampOrders.{stays_ranked}
use Rattle.hlc_log_picture.proofs.stamp_order.put_in_stamp_order.Goals as goal

pub returns-clause-by_stamp : goal.returns-clause-by_stamp
returns-clause-by_stamp c =
    let before = c.args.log.now.log in
    let after = c.reorder.new.self.log in
    let kept = c.reorder.ensures.same in
    let places = places_of c.in_ok-order.order.items in
    on_ok_weaker c.reorder.result (λ order.
    stays_ranked before after kept.receives (subst IsInOrder c.ordered.ensures.value c.ordered.ensures.ordered) c.reorder.ensures.ordered kept.events
    (subst (AreRanked before) (sym order)
    (subst (λ (log : LogInOrder). AreRanked log places) c.ordered.ensures.value c.in_ok-order.ensures.ranked))) c.reorder.ensures.order
