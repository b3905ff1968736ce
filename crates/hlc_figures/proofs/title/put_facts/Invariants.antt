use Rattle.std.proofs.Common.{◌≡◌, ◌++◌, flat_map, string_bytes}
use Rattle.hlc_causality.specs.Places.{places_below}
use Rattle.hlc_figures.specs.Title.{fact_text}
use Rattle.hlc_figures.proofs.title.put_facts.Given as goal

abbrev pub invariant-loop-column : goal.invariant-loop-column
invariant-loop-column g l =
    string_bytes l.text ≡ string_bytes l.fn.text ++ flat_map (fact_text (g.S.Subject.content l.subject) l.event.0) (places_below l.column)
