-- The numbers of names.
use Rattle.std.proofs.Common.{◌≡◌, ◌≢◌, ◌∙◌, ◌+◌, ◌++◌, ◌∷◌, [], ◌<◌, ◌≤◌, true, false, List, Option, Some, None, ℕ, ap, arith, inl, inr, length, length-append, refl, sym}
use Rattle.std.proofs.lemmas.List.Quantifiers.{position-Some}
use Rattle.std.specs.Prelude.{◌==◌, bytes_eq, is_some, position, unwrap_or}
use Rattle.std.proofs.lemmas.Bool.{cases_Bool, cases_order, eq-eqb, ne_eqb}
use Rattle.hlc_log_text.specs.Names.{with_name}
use Rattle.hlc_log_text.proofs.NameFacts.{has_number, with_known_name, with_new_name}
use Rattle.std.proofs.lemmas.List.{length-set}
use Rattle.hlc_watched_log.specs.Files.{KeptFiles, last_before, marked_at, number_at}
use Rattle.hlc_watched_log.specs.Numbers.{name_number, with_number}

-- a name that has the number of all names is new, and is added
pub new_name : (names : List (List ℕ)) (name : List ℕ) → name_number names name ≡ length names → with_name names name ≡ names ++ name ∷ []
new_name names name is =
    with_new_name names name (sym (has_number names name) ∙ unknown (position (bytes_eq name) names) refl is) where
      unknown : (found : Option ℕ) → position (bytes_eq name) names ≡ found → unwrap_or found (length names) ≡ length names → is_some found ≡ false
      unknown None at is = refl
      unknown (Some n) at is =
          let below : n < length names = (position-Some (bytes_eq name) names n [] at).0 in
          let no : ⊥ = omega (arith, below, is) in
          absurd no

-- one with another number is known
pub known_name : (names : List (List ℕ)) (name : List ℕ) → (name_number names name ≡ length names → ⊥) → with_name names name ≡ names
known_name names name not =
    with_known_name names name (sym (has_number names name) ∙ known (position (bytes_eq name) names) not) where
      known : (found : Option ℕ) → (unwrap_or found (length names) ≡ length names → ⊥) → is_some found ≡ true
      known None not = absurd (not refl)
      known (Some n) not = refl

module _ {A : Type 0} (new : A) (all : List A) (number : ℕ) where
  -- one more is kept by numbers at most
  pub with_number-bounds : (length all ≤ length (with_number new all number)) × (length (with_number new all number) ≤ length all + 1)
  with_number-bounds = elim (cases_Bool (number == length all)) [
    | inl is ↦ let more = length-append all (new ∷ []) in rw is (omega arith, omega arith)
    | inr other ↦ rw other (omega arith, omega arith)
  ]

  -- what has a number among them, or the next, has its place
  pub with_number-within : number ≤ length all → number < length (with_number new all number)
  with_number-within at_most = elim (cases_order number (length all)) [
    | inl is ↦ let more = length-append all (new ∷ []) in rw (eq-eqb number (length all) is) (omega arith)
    | inr apart ↦
        let other : number ≢ length all = λ is. elim apart [ inl lt ↦ omega arith | inr gt ↦ omega arith ] in
        rw (ne_eqb number (length all) other) (omega arith)
  ]

-- of two lists of one length it keeps that
pub with_number-together : {A B : Type 0} (a : A) (b : B) (xs : List A) (ys : List B) (number : ℕ) → length xs ≡ length ys
    → length (with_number a xs number) ≡ length (with_number b ys number)
with_number-together a b xs ys number same = elim (cases_order number (length xs)) [
  | inl is ↦
      let first = length-append xs (a ∷ []) in
      let second = length-append ys (b ∷ []) in
      rw (eq-eqb number (length xs) is, eq-eqb number (length ys) (is ∙ same)) (omega arith)
  | inr apart ↦
      let other : number ≢ length xs = λ is. elim apart [ inl lt ↦ omega arith | inr gt ↦ omega arith ] in
      rw (ne_eqb number (length xs) other, ne_eqb number (length ys) (λ is. other (is ∙ sym same))) same
]

-- a name has a number among the names, or the next
pub name_number-within : (names : List (List ℕ)) (name : List ℕ) → name_number names name ≤ length names
name_number-within names name = by_position (position (bytes_eq name) names) refl
  where
    by_position : (found : Option ℕ) → position (bytes_eq name) names ≡ found → unwrap_or found (length names) ≤ length names
    by_position None at = omega arith
    by_position (Some n) at = let below : n < length names = (position-Some (bytes_eq name) names n [] at).0 in omega arith

-- a file that is begun has its number
pub files-begun : (names : List (List ℕ)) (name : List ℕ) (counted : List ℕ) → length counted ≡ length names + 1
    → length (with_number 0 counted (name_number names name + 1)) ≡ length (with_name names name) + 1
files-begun names name counted one_each = elim (cases_order (name_number names name) (length names)) [
  | inl is ↦
      let more = length-append counted (0 ∷ []) in
      let added = ap length (new_name names name is) in
      let names_more = length-append names (name ∷ []) in
      rw (eq-eqb (name_number names name + 1) (length counted) (omega arith)) (omega arith)
  | inr apart ↦
      let other : name_number names name ≢ length names = λ is. elim apart [ inl lt ↦ omega arith | inr gt ↦ omega arith ] in
      let same = ap length (known_name names name other) in
      rw (ne_eqb (name_number names name + 1) (length counted) (λ is. other (omega arith))) (omega arith)
]

-- so it has after its mark
pub marked-whole : (names : List (List ℕ)) (name : List ℕ) (files : KeptFiles) (line : ℕ) → length files.counted ≡ length names + 1
    → length (marked_at files (name_number names name + 1) line).counted ≡ length (with_name names name) + 1
marked-whole names name files line one_each =
    length-set (with_number 0 files.counted (name_number names name + 1)) files.current (number_at files (last_before files line))
    ∙ files-begun names name files.counted one_each
