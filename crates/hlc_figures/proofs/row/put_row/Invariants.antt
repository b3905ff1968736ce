use Rattle.std.proofs.Common.{◌≡◌, ◌++◌, flat_map, string_bytes}
use Rattle.hlc_causality.specs.Places.{places_below}
use Rattle.hlc_figures.specs.Row.{cell_at, cell_text}
use Rattle.hlc_figures.proofs.row.put_row.Given as goal

abbrev pub invariant-loop-column : goal.invariant-loop-column
invariant-loop-column g l =
    string_bytes l.text ≡ string_bytes l.fn.text
    ++ flat_map (λ k. cell_text (cell_at (g.S.Subject.content l.subject) l.scene.frame l.y l.event.0 k)) (places_below l.column)
