use Rattle.std.proofs.Common.{◌∙◌, inl, inr, refl, sym}
use Rattle.std.specs.Cmp.Lexicographic.{other_text, same_text}
use Rattle.hlc_csv.proofs.text_reader.drop_mark.Goals as goal

pub returns-then-eq : goal.returns-then-eq
returns-then-eq c =
    let same = same_text c.as_slice.result.now c.as_slice-2.result.now (sym c.if-eq.true ∙ c.eq.ensures) in
    inl (sym c.as_slice.ensures.value ∙ same ∙ c.as_slice-2.ensures, c.clear.ensures.items)

pub returns-else-eq : goal.returns-else-eq
returns-else-eq c =
    let other = other_text c.as_slice.result.now c.as_slice-2.result.now (sym c.if-eq.false ∙ c.eq.ensures) in
    inr (λ is. other (c.as_slice.ensures.value ∙ is ∙ sym c.as_slice-2.ensures), refl)
