use Rattle.std.proofs.Common.{◌≡◌, ◌∙◌, ℕ, ◌-◌, arith, ap}
use Rattle.hlc_figures.specs.Columns.{greatest_number, places_from}
use Rattle.hlc_figures.proofs.Places.{greatest-more}
use Rattle.hlc_figures.proofs.columns.greatest.Goals as goal

pub loop-place-preserved : goal.loop-place-preserved
loop-place-preserved g c =
    greatest-more (g.S.Subject.content c.args.subject.now).shown c.args.first c.loop-place.place _ _ _ c.loop-place.auto.place
    c.loop-place.invariant c.shown.ensures c.max-greatest.ensures

pub returns : goal.returns
returns g c =
    let count : c.loop-place.place - c.args.first ≡ c.args.end - c.args.first = omega arith in
    c.loop-place.invariant ∙ ap (λ (n : ℕ). greatest_number (g.S.Subject.content c.args.subject.now).shown (places_from c.args.first n)) count
