-- Look-ups of names in lists of entries.
use Rattle.std.proofs.Common.{◌≡◌, ◌≢◌, ◌∙◌, ℕ, zero, suc, ◌+◌, ◌-◌, ◌<◌, ◌≤◌, true, false, ◌⊎◌, cond, List, [], ◌∷◌, Some, length, take, drop, Contains, arith, inl, inr, refl, sym, ap, subst}
use Rattle.std.specs.Prelude.{bytes_eq, if◌then◌else◌, slice_get}
use Rattle.std.specs.Map.{lookup, lookup_entry, remove_entry}
use Rattle.std.proofs.lemmas.Bool.{cases_Bool}
use Rattle.std.proofs.lemmas.List.{length-drop, take-append-drop}
use Rattle.std.proofs.lemmas.List.Elements.{Contains-append_right}
use Rattle.std.proofs.lemmas.Slice.Eq.{bytes_eq-Decides}
use Rattle.indexmap.specs.IndexMap.{insert_entry}
use Rattle.lru.proofs.Splits.{Contains-cons, Contains-head, Contains-tail}
use Rattle.hlc_watch.specs.Kept.{latest}

-- names are told apart
pub same_name : (a b : List ℕ) → bytes_eq a b ≡ true → a ≡ b
same_name a b = (bytes_eq-Decides a b).0

pub is_name : (a b : List ℕ) → a ≡ b → bytes_eq a b ≡ true
is_name a b = (bytes_eq-Decides a b).1

pub other_name : (a b : List ℕ) → a ≢ b → bytes_eq a b ≡ false
other_name a b differ = elim (cases_Bool (bytes_eq a b)) [
  | inl test ↦ absurd (differ (same_name a b test))
  | inr test ↦ test
]

pub differ_by_test : (a b : List ℕ) → bytes_eq a b ≡ false → a ≢ b
differ_by_test a b test same = let bad : true ≡ false = sym (is_name a b same) ∙ test in cc

-- another name passes no test
other_fails : (m k n : List ℕ) → m ≢ k → bytes_eq k n ≡ true → bytes_eq m n ≡ false
other_fails m k n differ test = other_name m n (λ same. differ (same ∙ sym (same_name k n test)))

-- what stands in a place that is within a list
pub some_at : {Y : Type 0} (ys : List Y) (i : ℕ) → i < length ys → (y : Y) × (slice_get ys i ≡ Some y)
some_at [] i within = absurd (omega arith)
some_at (y ∷ ys) zero within = (y, refl)
some_at (y ∷ ys) (suc i) within = some_at ys i (omega arith)

module _ {X : Type 0} where
  -- other entries stay as they are
  pub lookup-others : (m k : List ℕ) → m ≢ k → (es : List (List ℕ × X)) → lookup (bytes_eq m) (remove_entry (bytes_eq k) es) ≡ lookup (bytes_eq m) es
  lookup-others m k differ [] = refl
  lookup-others m k differ (e ∷ es) = elim (cases_Bool (bytes_eq k e.0)) [
    | inl test ↦ rw (test, other_fails m k e.0 differ test) refl
    | inr test ↦ rw (test, lookup-others m k differ es) refl
  ]

  -- the value of an entry that is found
  pub found_value : (m : List ℕ) (es : List (List ℕ × X)) (e : List ℕ × X) → lookup_entry (bytes_eq m) es ≡ Some e → lookup (bytes_eq m) es ≡ Some e.1
  found_value m [] e is = absurd cc
  found_value m (d ∷ es) e is = (elim (bytes_eq m d.0) as (λ b. cond b (Some d) (lookup_entry (bytes_eq m) es) ≡ Some e → cond b (Some d.1) (lookup (bytes_eq m) es) ≡ Some e.1) [
    | true ↦ λ found. let same : d ≡ e = cc in ap (λ (x : List ℕ × X). Some x.1) same
    | false ↦ λ found. found_value m es e found
  ]) is

  -- once a claim is put at a name
  module _ (k : List ℕ) (v : X) where
    abbrev put : List (List ℕ × X) → List (List ℕ × X)
    put es = insert_entry bytes_eq es k v

    -- that is found
    pub lookup-put : (es : List (List ℕ × X)) → lookup (bytes_eq k) (put es) ≡ Some v
    lookup-put [] = rw (is_name k k refl) refl
    lookup-put (e ∷ es) = elim (cases_Bool (bytes_eq k e.0)) [
      | inl test ↦ rw (test, test) refl
      | inr test ↦ rw (test, test) (lookup-put es)
    ]

    -- and what was at another one
    pub lookup-put_others : (m : List ℕ) → m ≢ k → (es : List (List ℕ × X)) → lookup (bytes_eq m) (put es) ≡ lookup (bytes_eq m) es
    lookup-put_others m differ [] = rw (other_name m k differ) refl
    lookup-put_others m differ (e ∷ es) = elim (cases_Bool (bytes_eq k e.0)) [
      | inl test ↦ rw (test, other_fails m k e.0 differ test) refl
      | inr test ↦ rw (test, lookup-put_others m differ es) refl
    ]

    -- it is one more at most
    pub length-put : (es : List (List ℕ × X)) → length (put es) ≤ length es + 1
    length-put [] = omega arith
    length-put (e ∷ es) = (elim (bytes_eq k e.0) as (λ b. length (if b then (e.0, v) ∷ es else e ∷ put es) ≤ length (e ∷ es) + 1) [
      | true ↦ omega arith
      | false ↦ let rest = length-put es in omega arith
    ])

    -- what is there was there, or is that
    pub contains-put : (es : List (List ℕ × X)) (x : List ℕ × X) → Contains (put es) x → Contains es x ⊎ ((k ≡ x.0) × (v ≡ x.1))
    contains-put [] x there = elim (Contains-cons (k, v) [] x there) [
      | inl same ↦ inr (ap (λ (y : List ℕ × X). y.0) same, ap (λ (y : List ℕ × X). y.1) same)
      | inr later ↦ inl later
    ]
    contains-put (e ∷ es) x there = elim (cases_Bool (bytes_eq k e.0)) [
      | inl test ↦ elim (Contains-cons (e.0, v) es x (rw test at there)) [
        | inl same ↦ inr (same_name k e.0 test ∙ ap (λ (y : List ℕ × X). y.0) same, ap (λ (y : List ℕ × X). y.1) same)
        | inr later ↦ inl (Contains-tail e es x later)
      ]
      | inr test ↦ elim (Contains-cons e (put es) x (rw test at there)) [
        | inl same ↦ inl (subst (Contains (e ∷ es)) same (Contains-head e es))
        | inr later ↦ elim (contains-put es x later) [
          | inl before ↦ inl (Contains-tail e es x before)
          | inr new ↦ inr new
        ]
      ]
    ]

-- the last so many of a list
module _ {Y : Type 0} (keep : ℕ) (xs : List Y) where
  pub latest_all : length xs ≤ keep → latest keep xs ≡ xs
  latest_all few = let none : length xs - keep ≡ 0 = omega arith in ap (λ n. drop n xs) none

  pub length-latest : length (latest keep xs) ≤ keep
  length-latest = let rest = length-drop (length xs - keep) xs in omega arith

  pub contains-latest : (x : Y) → Contains (latest keep xs) x → Contains xs x
  contains-latest x there =
      let n = length xs - keep in
      subst (λ ys. Contains ys x) (take-append-drop n xs) (Contains-append_right (take n xs) (drop n xs) x there)
