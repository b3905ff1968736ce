use Rattle.std.proofs.Common.{◌≡◌, ◌∙◌, ℕ, ◌-◌, arith, ap, max}
use Rattle.hlc_figures.specs.Columns.{greatest_number, places_from}
use Rattle.hlc_figures.specs.declared.columns.TheConstants.{LEAST_WIDTH}
use Rattle.hlc_figures.proofs.Places.{greatest-more}
use Rattle.hlc_figures.proofs.columns.widest.Goals as goal

pub loop-place-preserved : goal.loop-place-preserved
loop-place-preserved g c =
    greatest-more (λ e. (g.S.Subject.content c.args.subject.now).cell_width e c.args.column) c.args.first c.loop-place.place _ _ _
    c.loop-place.auto.place c.loop-place.invariant c.cell_width.ensures c.max-widest.ensures

pub returns : goal.returns
returns g c =
    let count : c.loop-place.place - c.args.first ≡ c.args.end - c.args.first = omega arith in
    let width = λ (n : ℕ). greatest_number (λ e. (g.S.Subject.content c.args.subject.now).cell_width e c.args.column) (places_from c.args.first n) in
    c.max.ensures ∙ ap (λ (n : ℕ). max n LEAST_WIDTH) (c.loop-place.invariant ∙ ap width count)
