-- The numbers that a record lists.
use Rattle.std.proofs.Common.{◌≡◌, ◌∙◌, ℕ, zero, suc, ◌+◌, ◌≤◌, ◌<◌, List, [], ◌∷◌, ◌++◌, Option, Some, None, append_assoc, append-nil, arith, map, refl, sym, ap, drop, drop-cons, get_or, length}
use Rattle.std.specs.Prelude.{option_map}
use Rattle.std.proofs.lemmas.List.{drop_all, map-append}
use Rattle.hlc_csv.specs.NumberList.{number_before, numbers_in}
use Rattle.hlc_csv.specs.Rows.{Fields, field_of}

field_of-get : (fields : Fields) (place : ℕ) → get_or fields place [] ≡ field_of fields place
field_of-get [] place = refl
field_of-get (f ∷ fields) zero = refl
field_of-get (f ∷ fields) (suc place) = field_of-get fields place

-- the numbers from a place on
pub numbers_in-at : (number : List ℕ → Option ℕ) (fields : Fields) (place : ℕ) → place < length fields
    → numbers_in number (drop place fields) ≡ number_before (number (field_of fields place)) (numbers_in number (drop (place + 1) fields))
numbers_in-at number fields place within =
    let next : suc place ≡ place + 1 = omega arith in
    ap (λ (fs : Fields). numbers_in number fs) (drop-cons fields place [] within)
    ∙ ap (λ (f : List ℕ). number_before (number f) (numbers_in number (drop (suc place) fields))) (field_of-get fields place)
    ∙ ap (λ (n : ℕ). number_before (number (field_of fields place)) (numbers_in number (drop n fields))) next

module _ {N : Type 0} (value : N → ℕ) where
  -- numbers with those that are to come
  abbrev pub with_rest : List N → Option (List ℕ) → Option (List ℕ)
  with_rest found rest = option_map (λ r. map value found ++ r) rest

  pub with_rest-none : (rest : Option (List ℕ)) → with_rest [] rest ≡ rest
  with_rest-none None = refl
  with_rest-none (Some r) = refl

  pub with_rest-push : (found : List N) (one : N) (rest : Option (List ℕ))
      → with_rest found (number_before (Some (value one)) rest) ≡ with_rest (found ++ one ∷ []) rest
  with_rest-push found one None = refl
  with_rest-push found one (Some r) =
      let pushed : map value (found ++ one ∷ []) ≡ map value found ++ value one ∷ [] = map-append value found (one ∷ []) in
      let all : map value (found ++ one ∷ []) ++ r ≡ map value found ++ value one ∷ r =
      ap (λ (list : List ℕ). list ++ r) pushed ∙ append_assoc (map value found) (value one ∷ []) r in
      ap (λ (list : List ℕ). Some list) (sym all)

  -- from the end on there are none
  pub numbers_in-end : (number : List ℕ → Option ℕ) (fields : Fields) (place : ℕ) (found : List N) → length fields ≤ place
      → with_rest found (numbers_in number (drop place fields)) ≡ Some (map value found)
  numbers_in-end number fields place found beyond =
      rw (drop_all place fields beyond) (ap (λ (list : List ℕ). Some list) (append-nil (map value found)))
