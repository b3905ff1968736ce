use Rattle.std.proofs.Common.{◌≡◌, find}
use Rattle.std.specs.Prelude.{nat_le}
use Rattle.hlc_figures.specs.Figure.{first_after}
use Rattle.hlc_figures.proofs.kept.first_after.Given as goal

-- none of the deliveries so far comes after the range
abbrev pub invariant-loop-delivery : goal.invariant-loop-delivery
invariant-loop-delivery g l =
    find (λ f. nat_le l.fn.frame.end f) l.delivery-iterator ≡ first_after (g.S.Subject.content l.subject) l.fn.frame l.fn.event.0
