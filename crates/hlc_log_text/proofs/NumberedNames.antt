-- Where the name of a number stands.
use Rattle.std.proofs.Common.{◌≡◌, ◌∙◌, ◌<◌, ℕ, Bool, true, false, List, [], Option, Some, None, ap, get_or, length, position, refl, slice_get, sym}
use Rattle.std.specs.Prelude.{◌↔◌, IsTrue}
use Rattle.std.specs.Str.{bytes_eq}
use Rattle.std.proofs.lemmas.Bool.{eqb-true}
use Rattle.std.proofs.lemmas.Option.{get_or_from_slice_get, slice_get_within}
use Rattle.std.proofs.lemmas.Slice.Eq.{bytes_eq-Decides}
use Rattle.hlc_log_text.specs.Names.{EachNameOnce}
use Rattle.hlc_log_text.proofs.NameFacts.{name_at_number}
use Rattle.hlc_log_text.proofs.SentNames.{by_number, without_number}

module _ (names : List (List ℕ)) (name : List ℕ) (n : ℕ) (once : EachNameOnce names) where
  -- if no name stands twice, one has the number of the place where it stands
  number_there : slice_get names n ≡ Some name → position (bytes_eq name) names ≡ Some n
  number_there there = by (position (bytes_eq name) names) refl (slice_get_within names n name there)
      ((bytes_eq-Decides name (get_or names n [])).1 (sym (get_or_from_slice_get names n name [] there))) where
        by : (found : Option ℕ) → position (bytes_eq name) names ≡ found → n < length names → bytes_eq name (get_or names n []) ≡ true → found ≡ Some n
        by None at below is = let no : true ≡ false = sym is ∙ without_number names name n at below in cc
        by (Some k) at below is = ap (λ (k : ℕ). Some k) (sym (eqb-true n k (sym (by_number names name k n once at below) ∙ is)))

  -- whether the name of a number is this one
  pub number_is : (known : List ℕ) → slice_get names n ≡ Some known → (is : Bool) → is ≡ bytes_eq known name
      → IsTrue is ↔ (position (bytes_eq name) names ≡ Some n)
  number_is known there true same =
      (λ yes. number_there (there ∙ ap (λ (x : List ℕ). Some x) ((bytes_eq-Decides known name).0 (sym same))), λ found. refl)
  number_is known there false same = (
    λ yes. absurd (cc),
    λ found.
        let at = name_at_number names name (Some n) (sym found) in
        let alike : known ≡ name = cc in
        let equal = (bytes_eq-Decides known name).1 alike in
        absurd (cc),
  )
