-- The rows of the events of a range.
use Rattle.std.proofs.Common.{◌≡◌, ◌∙◌, ℕ, zero, suc, ◌+◌, ◌-◌, ◌<◌, inl, inr, All, [], ◌∷◌, ap, arith, get_or, length, refl, subst, sym}
use Rattle.std.proofs.lemmas.Bool.{cases_eq}
use Rattle.std.proofs.lemmas.List.{get_or-map, get_or_append_left, length-append, length-map}
use Rattle.std.proofs.Math.Seq.{get_or-append_seam}
use Rattle.hlc_figures.specs.Columns.{places_from}
use Rattle.hlc_figures.specs.Content.{Content}
use Rattle.hlc_figures.specs.Rows.{event_row, event_rows}
use Rattle.hlc_figures.specs.Scene.{IsMarked, IsRowOf}
use Rattle.hlc_figures.specs.declared.rows.Row.{Row}
use Rattle.hlc_figures.specs.declared.scene.Scene.{Scene}

length-places_from : (first n : ℕ) → length (places_from first n) ≡ n
length-places_from first zero = refl
length-places_from first (suc n) =
    let push = length-append (places_from first n) ((first + n) ∷ []) in
    let all = length-places_from first n in
    omega (arith, push, all)

place_from : (first n k : ℕ) → k < n → get_or (places_from first n) k 0 ≡ first + k
place_from first zero k lt = absurd (omega arith)
place_from first (suc n) k lt =
    let all = length-places_from first n in
    elim (cases_eq k n) [
      | inl last ↦
          subst (λ (i : ℕ). get_or (places_from first (suc n)) i 0 ≡ first + k) (all ∙ sym last)
          (get_or-append_seam (places_from first n) (first + n) [] 0 ∙ ap (λ (i : ℕ). first + i) (sym last))
      | inr before ↦ get_or_append_left (places_from first n) ((first + n) ∷ []) 0 k (omega (arith, all)) ∙ place_from first n k (omega arith)
    ]

pub length-event_rows : (first end : ℕ) → length (event_rows first end) ≡ end - first
length-event_rows first end = length-map (places_from first (end - first)) event_row ∙ length-places_from first (end - first)

pub row_in_range : (first end k : ℕ) → k < length (event_rows first end) → first + k < end
row_in_range first end k lt = let all = length-event_rows first end in omega (arith, all, lt)

pub event_row_at : (first end k : ℕ) (other : Row) → k < length (event_rows first end) → get_or (event_rows first end) k other ≡ event_row (first + k)
event_row_at first end k other lt =
    let all = length-event_rows first end in
    let size = length-places_from first (end - first) in
    get_or-map event_row (places_from first (end - first)) k 0 other (omega (arith, all, size)) ∙ ap event_row (place_from first (end - first) k (omega (arith, all)))

-- if the events of a range are marked, the rows of these can be drawn
pub event_rows_are : (c : Content) (s : Scene) → IsMarked c s → All (IsRowOf c s) (event_rows s.frame.first s.frame.end)
event_rows_are c s marked k other lt =
    subst (IsRowOf c s) (sym (event_row_at s.frame.first s.frame.end k other lt))
    (marked, record { from = omega arith; before = row_in_range s.frame.first s.frame.end k lt })
