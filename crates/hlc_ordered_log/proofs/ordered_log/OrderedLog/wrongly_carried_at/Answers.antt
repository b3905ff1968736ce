use Rattle.std.proofs.Common.{◌≡◌, ◌∙◌, ℕ, ◌<◌, Option, Some, None, IfSome, length, ap, refl, sym}
use Rattle.hlc_stamp.specs.declared.id.EventId.{EventId}
use Rattle.hlc_causality.specs.Neighbours.{place_of}
use Rattle.hlc_ordered_log.specs.InOrder.{wrong_of}
use Rattle.hlc_ordered_log.proofs.PlacedCauses.{wrong_exists}
use Rattle.hlc_ordered_log.proofs.ordered_log.OrderedLog.wrongly_carried_at.Goals as goal

pub returns-clause-value : goal.returns-clause-value
returns-clause-value c = c.wrongly_carried.ensures ∙ ap (wrong_of c.args.self.now) c.position.ensures.index

named : (n : ℕ) (o : Option EventId) → ((d : ℕ) → place_of o ≡ Some d → d < n) → IfSome o (λ d. d.0 < n)
named n None each = tt
named n (Some d) each = each d.0 refl

pub returns-clause-event : goal.returns-clause-event
returns-clause-event c =
    let log = c.args.self.now in
    named (length log.events) c.wrongly_carried.result (λ d is.
    wrong_exists log c.position.ensures.ordered c.position.result.0 c.position.ensures.exists d (sym c.wrongly_carried.ensures ∙ is))
