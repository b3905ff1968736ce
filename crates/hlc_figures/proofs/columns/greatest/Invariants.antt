use Rattle.std.proofs.Common.{◌≡◌, ◌-◌}
use Rattle.hlc_figures.specs.Columns.{greatest_number, places_from}
use Rattle.hlc_figures.proofs.columns.greatest.Given as goal

abbrev pub invariant-loop-place : goal.invariant-loop-place
invariant-loop-place g l =
    l.greatest ≡ greatest_number (g.S.Subject.content l.subject).shown (places_from l.first (l.place - l.first))
