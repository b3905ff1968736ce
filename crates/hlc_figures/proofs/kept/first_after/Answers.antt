use Rattle.std.proofs.Common.{◌≡◌, List, ℕ, Contains, Some, rules, subst, sym}
use Rattle.hlc_causality.specs.Neighbours.{deliveries_of}
use Rattle.hlc_figures.specs.Figure.{first_after}
use Rattle.hlc_figures.proofs.Links.{found_is_among}
use Rattle.hlc_figures.proofs.kept.first_after.Goals as goal

pub returns-then-delivery-frame-clause-exists : goal.returns-then-delivery-frame-clause-exists
returns-then-delivery-frame-clause-exists g c =
    let of = g.S.Subject.content c.args.subject.now in
    let found : Some c.in-Some.delivery.0 ≡ first_after of c.args.frame c.args.event.0 = search rules in
    let delivery = c.in-Some.delivery.0 in
    let among = found_is_among _ (deliveries_of of.events c.args.event.0) delivery (sym found) in
    let deliveries = c.deliveries-delivery-items.ensures in
    deliveries.exist delivery (subst (λ (xs : List ℕ). Contains xs delivery) (sym deliveries.all) among)

pub loop-delivery-preserved : goal.loop-delivery-preserved
loop-delivery-preserved g c = search rules
