-- The locations that a record lists.
use Rattle.std.proofs.Common.{◌≡◌, ◌∙◌, ℕ, zero, suc, ◌+◌, ◌≤◌, ◌<◌, List, [], ◌∷◌, ◌++◌, Option, Some, None, append_assoc, append-nil, arith, refl, sym, ap, drop, drop-cons, get_or, length}
use Rattle.std.specs.Prelude.{option_map}
use Rattle.std.proofs.lemmas.List.{drop_all}
use Rattle.hlc_csv.specs.Rows.{Fields, field_of}
use Rattle.hlc_log_text.specs.Question.{location_before, location_in, locations_in}
use Rattle.hlc_log_text.specs.declared.location.Location.{Location}

field_get : (fields : Fields) (place : ℕ) → get_or fields place [] ≡ field_of fields place
field_get [] place = refl
field_get (f ∷ fields) zero = refl
field_get (f ∷ fields) (suc place) = field_get fields place

-- those from a place on
pub locations_in-at : (fields : Fields) (place : ℕ) → place < length fields
    → locations_in (drop place fields) ≡ location_before (location_in fields place) (locations_in (drop (place + 1) fields))
locations_in-at fields place within =
    let next : suc place ≡ place + 1 = omega arith in
    ap locations_in (drop-cons fields place [] within)
    ∙ ap (λ (f : List ℕ). location_before (location_in (f ∷ []) 0) (locations_in (drop (suc place) fields))) (field_get fields place)
    ∙ ap (λ (n : ℕ). location_before (location_in fields place) (locations_in (drop n fields))) next

-- some with those that are to come
abbrev pub with_rest : List Location → Option (List Location) → Option (List Location)
with_rest found rest = option_map (λ r. found ++ r) rest

pub with_rest-none : (rest : Option (List Location)) → with_rest [] rest ≡ rest
with_rest-none None = refl
with_rest-none (Some r) = refl

pub with_rest-push : (found : List Location) (one : Location) (rest : Option (List Location))
    → with_rest found (location_before (Some one) rest) ≡ with_rest (found ++ one ∷ []) rest
with_rest-push found one None = refl
with_rest-push found one (Some r) = ap (λ (list : List Location). Some list) (sym (append_assoc found (one ∷ []) r))

-- from the end on there are none
pub locations_in-end : (fields : Fields) (place : ℕ) (found : List Location) → length fields ≤ place
    → with_rest found (locations_in (drop place fields)) ≡ Some found
locations_in-end fields place found beyond = rw (drop_all place fields beyond) (ap (λ (list : List Location). Some list) (append-nil found))
