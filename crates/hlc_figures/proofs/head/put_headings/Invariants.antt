use Rattle.std.proofs.Common.{◌≡◌, ◌++◌, flat_map, string_bytes}
use Rattle.hlc_causality.specs.Places.{places_below}
use Rattle.hlc_figures.specs.Head.{heading_of, heading_text}
use Rattle.hlc_figures.proofs.head.put_headings.Given as goal

abbrev pub invariant-loop-column : goal.invariant-loop-column
invariant-loop-column g l =
    string_bytes l.text ≡ string_bytes l.fn.text
    ++ flat_map (λ k. heading_text (heading_of (g.S.Subject.content l.subject) l.scene.frame k)) (places_below l.column)
