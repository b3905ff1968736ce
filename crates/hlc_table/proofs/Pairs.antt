-- The rows of a map's pairs.
use Rattle.std.proofs.Common.{◌≡◌, ℕ, List, [], ◌∷◌, refl, sym, ◌∙◌, ap, Option, Some, None, position, slice_get, subst, arith, IfSome}
use Rattle.std.specs.Str.{bytes_eq}
use Rattle.std.specs.List.{AllZip, IsDistinct, position_or_len}
use Rattle.std.proofs.lemmas.Map.Made.{AllPairs-from_IsDistinct}
use Rattle.std.proofs.lemmas.Slice.Eq.{bytes_eq-Decides}
use Rattle.std.specs.Map.{lookup, keys_of, values_of}
use Rattle.indexmap.specs.IndexMap.{insert_entry, set_value_at}
use Rattle.indexmap.proofs.MapLemmas.{value_index}
use Rattle.hlc_table.specs.declared.entry.Entry.{Entry}
use Rattle.hlc_table.specs.Rows.{EachKeyOnce, IsPlaceOf, Row, entry_at, greater_entry, keys_in, learn_entry, row_of, rows_of_entries}

abbrev pub Pairs : Type 0
Pairs = List (List ℕ × Entry)

-- a look-up in a map's pairs finds the entry of the key
lookup-rows_of : (pairs : Pairs) (key : List ℕ) → lookup (bytes_eq key) pairs ≡ entry_at (rows_of_entries pairs) key
lookup-rows_of [] key = refl
lookup-rows_of (pair ∷ pairs) key = grind (arith, lookup-rows_of pairs key)

pub looked_up : (pairs : Pairs) {rows : List Row} {key sought : List ℕ} → rows_of_entries pairs ≡ rows → sought ≡ key
    → lookup (bytes_eq sought) pairs ≡ entry_at rows key
looked_up pairs {rows = rows} {key = key} {sought = sought} view same =
    lookup-rows_of pairs sought ∙ ap (entry_at (rows_of_entries pairs)) same ∙ ap (λ rows. entry_at rows key) view

-- a key stands at the place of its pair
keys_in-rows_of : (pairs : Pairs) → keys_in (rows_of_entries pairs) ≡ keys_of pairs
keys_in-rows_of [] = refl
keys_in-rows_of (pair ∷ pairs) = ap (λ (keys : List (List ℕ)). pair.0 ∷ keys) (keys_in-rows_of pairs)

place-rows_of : (pairs : Pairs) (key : List ℕ)
    → position (bytes_eq key) (keys_of pairs) ≡ position (bytes_eq key) (keys_in (rows_of_entries pairs))
place-rows_of pairs key = ap (position (bytes_eq key)) (sym (keys_in-rows_of pairs))

pub place_looked_up : (pairs : Pairs) {rows : List Row} {key sought : List ℕ} → rows_of_entries pairs ≡ rows → sought ≡ key
    → position (bytes_eq sought) (keys_of pairs) ≡ position (bytes_eq key) (keys_in rows)
place_looked_up pairs {rows = rows} {key = key} {sought = sought} view same =
    ap (λ (key : List ℕ). position (bytes_eq key) (keys_of pairs)) same
    ∙ place-rows_of pairs key
    ∙ ap (λ rows. position (bytes_eq key) (keys_in rows)) view

-- and what is held there is found by the key
pub held_at_place : (pairs : Pairs) (key : List ℕ) (place : ℕ) → IsPlaceOf (rows_of_entries pairs) key place
    → slice_get (values_of pairs) place ≡ entry_at (rows_of_entries pairs) key
held_at_place pairs key place at =
    let value_at : Option ℕ → Type 0 = λ found. IfSome found (λ p. slice_get (values_of pairs) p ≡ lookup (bytes_eq key) pairs) in
    subst value_at (place-rows_of pairs key ∙ at) (value_index (bytes_eq key) pairs) ∙ lookup-rows_of pairs key

-- to learn for a new key is to insert
pub learnt_inserted : (pairs : Pairs) (key : List ℕ) (new : Entry) → entry_at (rows_of_entries pairs) key ≡ None
    → learn_entry (rows_of_entries pairs) key new ≡ rows_of_entries (insert_entry bytes_eq pairs key new)
learnt_inserted [] key new none = grind arith
learnt_inserted (pair ∷ pairs) key new none = grind (arith, learnt_inserted pairs key new)

-- to learn for a known key is to write the greater entry at its place
learnt_known : (pairs : Pairs) (key : List ℕ) (held new : Entry) → entry_at (rows_of_entries pairs) key ≡ Some held
    → learn_entry (rows_of_entries pairs) key new
    ≡ rows_of_entries (set_value_at pairs (position_or_len (bytes_eq key) (keys_of pairs)) (greater_entry held new))
learnt_known [] key held new found = cc
learnt_known (pair ∷ pairs) key held new found = grind (arith, learnt_known pairs key held new)

pub learnt_at : (pairs : Pairs) (key : List ℕ) (held new : Entry) (place : ℕ) → IsPlaceOf (rows_of_entries pairs) key place
    → entry_at (rows_of_entries pairs) key ≡ Some held
    → learn_entry (rows_of_entries pairs) key new ≡ rows_of_entries (set_value_at pairs place (greater_entry held new))
learnt_at pairs key held new place at found =
    let stands : position (bytes_eq key) (keys_of pairs) ≡ Some place = place-rows_of pairs key ∙ at in
    let same : position_or_len (bytes_eq key) (keys_of pairs) ≡ place = grind arith in
    rw same at (learnt_known pairs key held new found)

-- the rows of a map's clone
pub cloned_rows : (pairs clones : Pairs) → AllZip (λ p q. (q.0 ≡ p.0) × (q.1 ≡ p.1)) pairs clones
    → rows_of_entries clones ≡ rows_of_entries pairs
cloned_rows [] [] all = refl
cloned_rows [] (clone ∷ clones) all = absurd all
cloned_rows (pair ∷ pairs) [] all = absurd all
cloned_rows (pair ∷ pairs) (clone ∷ clones) all =
    let row : row_of clone ≡ row_of pair = λ i. record { key = all.0.0 i; entry = all.0.1 i } in
    λ i. row i ∷ cloned_rows pairs clones all.1 i

-- no two keys of a map are equal, so no key stands in two rows
pub each_key_once : (pairs : Pairs) → IsDistinct bytes_eq (keys_of pairs) → EachKeyOnce (rows_of_entries pairs)
each_key_once pairs distinct = AllPairs-from_IsDistinct bytes_eq-Decides (keys_in (rows_of_entries pairs)) (rw keys_in-rows_of distinct)
