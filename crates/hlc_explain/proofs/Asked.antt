-- Whether the events exist that are asked about.
use Rattle.std.proofs.Common.{◌≡◌, ◌↔◌, ◌⊎◌, ◌∙◌, ◌&&◌, Bool, true, false, ℕ, suc, ◌<◌, ◌≤◌, inl, inr, List, [], ◌∷◌, arith, ap, refl, sym}
use Rattle.std.specs.Prelude.{All, nat_lt}
use Rattle.std.proofs.lemmas.Bool.{and_from, and_parts, cases_lt}
use Rattle.std.proofs.lemmas.Bool.Decides.{nat_tests}
use Rattle.std.proofs.lemmas.List.Elements.{All-cons, All-head, All-nil, All-tail}
use Rattle.hlc_explain.specs.EventQuestion.{are_among}

-- some events are among the first n exactly if each is
pub within_among : (n : ℕ) (events : List ℕ) → are_among n events ≡ true → All (λ (k : ℕ). k < n) events
within_among n [] told = All-nil (λ (k : ℕ). k < n)
within_among n (e ∷ events) told =
    let parts = and_parts (nat_lt e n) (are_among n events) told in
    let lt : e < n = grind (arith, nat_tests, parts.0) in
    All-cons (λ (k : ℕ). k < n) e events lt (within_among n events parts.1)

pub among_within : (n : ℕ) (events : List ℕ) → All (λ (k : ℕ). k < n) events → are_among n events ≡ true
among_within n [] within = refl
among_within n (e ∷ events) within =
    let lt : e < n = All-head (λ (k : ℕ). k < n) e events within in
    and_from (nat_lt e n) (are_among n events) (grind (arith, nat_tests, lt))
    (among_within n events (All-tail (λ (k : ℕ). k < n) e events within))

-- one of one or two events is missing
pub one_missing : (n e : ℕ) → (are_among n (e ∷ []) ≡ false) ↔ (n ≤ e)
one_missing n e = elim (cases_lt e n) [
  | inl lt ↦
      let test : nat_lt e n ≡ true = grind (arith, nat_tests, lt) in
      let there : are_among n (e ∷ []) ≡ true = ap (λ (b : Bool). b && true) test in (
        λ missing. let both : true ≡ false = sym there ∙ missing in absurd cc,
        λ beyond. absurd (omega arith),
      )
  | inr beyond ↦
      let test : nat_lt e n ≡ false = grind (arith, nat_tests, beyond) in
      (λ missing. beyond, λ far. ap (λ (b : Bool). b && true) test)
]

pub two_missing : (n e f : ℕ) → (are_among n (e ∷ f ∷ []) ≡ false) ↔ ((n ≤ e) ⊎ (n ≤ f))
two_missing n e f = elim (cases_lt e n) [
  | inl lt ↦
      let test : nat_lt e n ≡ true = grind (arith, nat_tests, lt) in
      let rest : are_among n (e ∷ f ∷ []) ≡ are_among n (f ∷ []) = ap (λ (b : Bool). b && are_among n (f ∷ [])) test in
      let other = one_missing n f in (
        λ missing. inr (other.0 (sym rest ∙ missing)),
        λ far. elim far [ inl beyond ↦ absurd (omega arith) | inr beyond ↦ rest ∙ other.1 beyond ],
      )
  | inr beyond ↦
      let test : nat_lt e n ≡ false = grind (arith, nat_tests, beyond) in
      (λ missing. inl beyond, λ far. ap (λ (b : Bool). b && are_among n (f ∷ [])) test)
]

-- so a question can't be asked exactly if what finds its answer finds no event
pub one_asked : (n e : ℕ) (P : Type 0) → P ↔ (n ≤ e) → P ↔ (are_among n (e ∷ []) ≡ false)
one_asked n e P h = let missing = one_missing n e in (λ p. missing.1 (h.0 p), λ q. h.1 (missing.0 q))

pub two_asked : (n e f : ℕ) (P : Type 0) → P ↔ ((n ≤ e) ⊎ (n ≤ f)) → P ↔ (are_among n (e ∷ f ∷ []) ≡ false)
two_asked n e f P h = let missing = two_missing n e f in (λ p. missing.1 (h.0 p), λ q. h.1 (missing.0 q))
