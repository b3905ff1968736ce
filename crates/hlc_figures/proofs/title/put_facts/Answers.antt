use Rattle.std.proofs.Common.{◌≡◌, ◌∙◌, ◌++◌, ℕ, ap, arith, flat_map, string_bytes}
use Rattle.std.proofs.lemmas.Result.{err_from_is_err_and}
use Rattle.hlc_causality.specs.Places.{places_below}
use Rattle.hlc_figures.specs.Title.{fact_text}
use Rattle.hlc_figures.proofs.Cells.{cells_added}
use Rattle.hlc_figures.proofs.title.put_facts.Goals as goal

pub loop-column-preserved : goal.loop-column-preserved
loop-column-preserved g c =
    cells_added (fact_text (g.S.Subject.content c.args.subject.now) c.args.event.0) c.loop-column.column _ _ _ c.loop-column.invariant
    c.in_ok-put_fact.ensures

pub returns : goal.returns
returns g c =
    let of = g.S.Subject.content c.args.subject.now in
    let all : c.loop-column.column ≡ of.columns = omega (arith, c.columns-column-end.ensures) in
    c.loop-column.invariant ∙ ap (λ (n : ℕ). string_bytes c.args.text.now ++ flat_map (fact_text of c.args.event.0) (places_below n)) all

pub returns-in_err-put_fact : goal.returns-in_err-put_fact
returns-in_err-put_fact g c = rw (err_from_is_err_and c.from_residual.result c.from_residual.ensures.1).1 tt
