use Rattle.std.proofs.Common.{◌≡◌, ◌+◌, ◌∙◌, List, Option, ap, subst, sym}
use Rattle.hlc_stamp.specs.declared.id.EventId.{EventId}
use Rattle.hlc_log.specs.Placing.{LinksToFirstFront, first_of}
use Rattle.hlc_log.specs.SendLinks.{link_at}
use Rattle.hlc_log.proofs.Placements.{first_front_more}
use Rattle.hlc_log.proofs.placing.Placing.first_waiting.Goals as goal

pub loop-front-preserved : goal.loop-front-preserved
loop-front-preserved c =
    let fronts = c.args.self.now.fronts.items in
    let n = c.loop-front.front-index in
    let first = c.loop-front.first in
    let read : c.earlier-first.result ≡ first_of first (link_at fronts n) =
    c.earlier-first.ensures ∙ ap (λ (links : List (Option EventId)). first_of first (link_at links n)) c.deref-front-items.ensures.value in
    subst (LinksToFirstFront fronts (n + 1)) (sym read) (first_front_more fronts n first c.loop-front.invariant)
