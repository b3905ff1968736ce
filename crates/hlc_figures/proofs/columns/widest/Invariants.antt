use Rattle.std.proofs.Common.{◌≡◌, ◌-◌}
use Rattle.hlc_figures.specs.Columns.{greatest_number, places_from}
use Rattle.hlc_figures.proofs.columns.widest.Given as goal

abbrev pub invariant-loop-place : goal.invariant-loop-place
invariant-loop-place g l =
    l.widest ≡ greatest_number (λ e. (g.S.Subject.content l.subject).cell_width e l.column) (places_from l.first (l.place - l.first))
