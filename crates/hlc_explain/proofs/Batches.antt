-- Text of one place after another, in batches.
use Rattle.std.proofs.Common.{◌≡◌, ◌∙◌, ℕ, ◌+◌, List, [], ◌∷◌, ◌++◌, Option, Some, None, add-one, append_assoc, ap, subst, sym}
use Rattle.std.specs.Io.KnownBytes.{Appends, append_known}
use Rattle.std.specs.Prelude.{flat_map}
use Rattle.std.proofs.lemmas.List.Concat.{flat_map-append}
use Rattle.hlc_causality.specs.Places.{places_below}
use Rattle.hlc_csv.specs.Rows.{AddsText}
use Rattle.hlc_csv.proofs.RowFacts.{adds_text-joined, adds_text-more}

-- text waits for the writer
grows : (now : Option (List ℕ)) (old mid text : List ℕ) → mid ≡ old ++ text → AddsText now now old mid text
grows None old mid text is = tt
grows (Some x) old mid text is = ap (λ (t : List ℕ). x ++ t) is ∙ sym (append_assoc x old text)

-- after the texts of n places that of the next one is added, and handed out or waits
pub places-more : (text : ℕ → List ℕ) (n : ℕ) (before now then : Option (List ℕ)) (old mid new : List ℕ)
    → Appends before (append_known now old) (flat_map text (places_below n)) → mid ≡ old ++ text n → AddsText now then mid new []
    → Appends before (append_known then new) (flat_map text (places_below (n + 1)))
places-more text n before now then old mid new h is spilled =
    let all : flat_map text (places_below (n + 1)) ≡ flat_map text (places_below n) ++ (text n ++ []) =
    ap (λ (k : ℕ). flat_map text (places_below k)) (add-one n) ∙ flat_map-append text (places_below n) (n ∷ []) in
    let both : AddsText now then old new (text n ++ []) =
    adds_text-joined now now then old mid new (text n) [] (grows now old mid (text n) is) spilled in
    subst (λ (t : List ℕ). Appends before (append_known then new) t) (sym all)
    (adds_text-more before now then old new (flat_map text (places_below n)) (text n ++ []) h both)
