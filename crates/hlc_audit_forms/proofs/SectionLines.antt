-- The lines of a section, one row more.
use Rattle.std.proofs.Common.{◌≡◌, ◌∙◌, Bool, ℕ, List, [], ◌∷◌, ◌++◌, append_assoc, append-nil, ap, flat_map, sym}
use Rattle.std.proofs.lemmas.List.Concat.{flat_map-append}
use Rattle.hlc_csv.specs.Rows.{Fields}
use Rattle.hlc_audit_forms.specs.AuditText.{below_title, row_text, title_before}
use Rattle.hlc_audit_forms.specs.TextSection.{section_title}
use Rattle.hlc_audit_forms.specs.declared.text_section.TextSection.{TextSection}
use Rattle.hlc_audit_forms.proofs.Lists.{has_none}

-- one line more, below the title if it is the first
pub below-more : (s : TextSection) (rows : List Fields) (row : Fields)
    → below_title s (rows ++ row ∷ []) ≡ below_title s rows ++ (title_before s (has_none rows) ++ row_text s row)
below-more s [] row = ap (λ (t : List ℕ). section_title s ++ t) (append-nil (row_text s row))
below-more s (first ∷ rows) row =
    let told = flat_map (row_text s) rows in
    let last : flat_map (row_text s) (row ∷ []) ≡ row_text s row = append-nil (row_text s row) in
    let more : flat_map (row_text s) (rows ++ row ∷ []) ≡ told ++ row_text s row =
    flat_map-append (row_text s) rows (row ∷ []) ∙ ap (λ (t : List ℕ). told ++ t) last in
    rw more (simp append_assoc)

pub line-written : (s : TextSection) (old now with_title after : List ℕ) (rows all : List Fields) (row : Fields) (is_first : Bool)
    → now ≡ old ++ below_title s rows → with_title ≡ now ++ title_before s is_first → after ≡ with_title ++ row_text s row
    → is_first ≡ has_none rows → all ≡ rows ++ row ∷ [] → after ≡ old ++ below_title s all
line-written s old now with_title after rows all row is_first so_far title line same one_more =
    let told = below_title s rows in
    let head = title_before s (has_none rows) in
    line ∙ ap (λ (t : List ℕ). t ++ row_text s row) (title ∙ ap (λ (first : Bool). now ++ title_before s first) same ∙ ap (λ (t : List ℕ). t ++ head) so_far)
    ∙ append_assoc (old ++ told) head (row_text s row) ∙ append_assoc old told (head ++ row_text s row)
    ∙ ap (λ (t : List ℕ). old ++ t) (sym (below-more s rows row)) ∙ ap (λ (rs : List Fields). old ++ below_title s rs) (sym one_more)
