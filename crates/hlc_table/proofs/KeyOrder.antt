-- The keys of rows stand once each, in the order in which they were first learnt.
use Rattle.std.proofs.Common.{◌≡◌, ◌≢◌, ◌↔◌, ℕ, Contains, Bool, true, false, cond, not, ◌&&◌, List, [], ◌∷◌, ◌++◌, get_or, filter, refl, sym, ap, subst, ◌∙◌, append_assoc, arith, Option}
use Rattle.std.specs.List.{AllPairs, list_any}
use Rattle.std.specs.Option.{IsSome, is_some}
use Rattle.std.specs.Str.{bytes_eq}
use Rattle.std.proofs.lemmas.Cmp.{nat_list_eq_equiv}
use Rattle.std.proofs.lemmas.List.{append-nil}
use Rattle.std.proofs.lemmas.List.Folds.{list_any-append, list_any_at}
use Rattle.std.proofs.lemmas.List.Quantifiers.{all_pairs_push}
use Rattle.std.proofs.lemmas.Map.Views.{list_any-from_Contains}
use Rattle.std.proofs.lemmas.Slice.Eq.{bytes_eq-Decides}
use Rattle.indexmap.proofs.CallerLemmas.{Contains-list_any}
use Rattle.hlc_table.specs.declared.entry.Entry.{Entry}
use Rattle.hlc_table.specs.Laws.{KeysInFirstLearntOrder, NoKeyTwice, first_occurrences}
use Rattle.hlc_table.specs.Rows.{EachKeyOnce, Row, entry_at, keys_in, learn_entry}
use Rattle.hlc_table.proofs.Learning.{rows_after}

-- a key is among others
abbrev pub is_known : List (List ℕ) → List ℕ → Bool
is_known keys key = list_any (bytes_eq key) keys

-- keys, and last another if it is not among them
abbrev pub with_key : List (List ℕ) → List ℕ → List (List ℕ)
with_key keys key = cond (is_known keys key) keys (keys ++ key ∷ [])

-- a known key keeps its place, and a new one goes last
pub keys_in-learn_entry : (rows : List Row) (key : List ℕ) (new : Entry) → keys_in (learn_entry rows key new) ≡ with_key (keys_in rows) key
keys_in-learn_entry [] key new = refl
keys_in-learn_entry (row ∷ rows) key new = grind (arith, keys_in-learn_entry rows key new)

-- the keys that have an entry are those of the rows
pub is_some-entry_at : (rows : List Row) (key : List ℕ) → is_some (entry_at rows key) ≡ is_known (keys_in rows) key
is_some-entry_at [] key = refl
is_some-entry_at (row ∷ rows) key = grind (arith, is_some-entry_at rows key)

pub known_from_entry_at : (rows : List Row) (key : List ℕ) (found : Option Entry) → found ≡ entry_at rows key
    → IsSome found ↔ Contains (keys_in rows) key
known_from_entry_at rows key found entry = subst (λ o. IsSome o ↔ Contains (keys_in rows) key) (sym entry) (
  λ some. Contains-list_any bytes_eq (λ a b. (bytes_eq-Decides a b).0) (keys_in rows) key (sym (is_some-entry_at rows key) ∙ some),
  λ known. is_some-entry_at rows key ∙ list_any-from_Contains nat_list_eq_equiv key (keys_in rows) known,
)

-- so each key stays in one row
pub each_key_once-learn_entry : (rows : List Row) (key : List ℕ) (new : Entry) → EachKeyOnce rows → EachKeyOnce (learn_entry rows key new)
each_key_once-learn_entry rows key new once = rw keys_in-learn_entry (by (is_known (keys_in rows) key) refl) where
  by : (b : Bool) → is_known (keys_in rows) key ≡ b → AllPairs (λ a b. a ≢ b) (cond b (keys_in rows) (keys_in rows ++ key ∷ []))
  by true known = once
  by false new = all_pairs_push (λ a b. a ≢ b) (keys_in rows) key once (λ k d within same.
      let here = (bytes_eq-Decides key (get_or (keys_in rows) k d)).1 (sym same) in
      let found : is_known (keys_in rows) key ≡ true = list_any_at (bytes_eq key) (keys_in rows) k d within here in
      cc)

-- a key that is not among keys with another is not that one, and not among them
not_known : (keys : List (List ℕ)) (key other : List ℕ)
    → not (is_known (with_key keys key) other) ≡ (not (bytes_eq key other) && not (is_known keys other))
not_known keys key other = by (is_known keys key) refl where
  by : (b : Bool) → is_known keys key ≡ b
      → not (is_known (cond b keys (keys ++ key ∷ [])) other) ≡ (not (bytes_eq key other) && not (is_known keys other))
  by true known =
      let same : bytes_eq key other ≡ true → is_known keys other ≡ true = λ h. rw ((bytes_eq-Decides key other).0 h) at known in
      grind arith
  by false new = grind (arith, list_any-append (bytes_eq other) keys (key ∷ []), nat_list_eq_equiv.symm key other)

-- so what is not among them is filtered step by step
filter_not_known : (keys : List (List ℕ)) (key : List ℕ) (others : List (List ℕ))
    → filter (λ other. not (is_known (with_key keys key) other)) others
    ≡ filter (λ other. not (is_known keys other)) (filter (λ other. not (bytes_eq key other)) others)
filter_not_known keys key [] = refl
filter_not_known keys key (other ∷ others) = grind (arith, not_known keys key other, filter_not_known keys key others)

-- a new key goes before the rest
with_key-append : (keys rest : List (List ℕ)) (key : List ℕ) (known : Bool)
    → cond known keys (keys ++ key ∷ []) ++ rest ≡ keys ++ cond (not known) (key ∷ rest) rest
with_key-append keys rest key true = refl
with_key-append keys rest key false = append_assoc keys (key ∷ []) rest

-- learns add the keys that rows lack, in the order of their first occurrences
keys_after : (rows learns : List Row)
    → keys_in (rows_after rows learns) ≡ keys_in rows
    ++ filter (λ other. not (is_known (keys_in rows) other)) (first_occurrences (keys_in learns))
keys_after rows [] = sym (append-nil (keys_in rows))
keys_after rows (learn ∷ learns) =
    let keys = keys_in rows in
    let others = first_occurrences (keys_in learns) in
    let after : List (List ℕ) = filter (λ other. not (is_known keys other)) (filter (λ other. not (bytes_eq learn.key other)) others) in
    let more = keys_after (learn_entry rows learn.key learn.entry) learns in
    (rw (keys_in-learn_entry rows learn.key learn.entry, filter_not_known keys learn.key others) at more)
    ∙ with_key-append keys after learn.key (is_known keys learn.key)

keep_all : (keys : List (List ℕ)) → filter (λ key. true) keys ≡ keys
keep_all [] = refl
keep_all (key ∷ keys) = ap (λ (others : List (List ℕ)). key ∷ others) (keep_all keys)

pub keys_in_first_learnt_order : KeysInFirstLearntOrder
keys_in_first_learnt_order learns = keys_after [] learns ∙ keep_all (first_occurrences (keys_in learns))

-- no key stands in two rows after any learns
once_after : (rows learns : List Row) → EachKeyOnce rows → EachKeyOnce (rows_after rows learns)
once_after rows [] once = once
once_after rows (learn ∷ learns) once =
    once_after (learn_entry rows learn.key learn.entry) learns (each_key_once-learn_entry rows learn.key learn.entry once)

pub no_key_twice : NoKeyTwice
no_key_twice learns = once_after [] learns (λ i j d before within. absurd (omega arith))
