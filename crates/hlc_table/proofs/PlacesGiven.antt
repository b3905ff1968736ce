-- Lists that places give, one after another.
use Rattle.std.proofs.Common.{◌≡◌, ◌∙◌, ℕ, zero, suc, ◌+◌, ◌<◌, ◌≤◌, List, [], ◌++◌, arith, refl, sym, ap}
use Rattle.std.specs.List.{flat_map}
use Rattle.std.proofs.lemmas.List.{append-nil}
use Rattle.hlc_causality.specs.Places.{places_below}
use Rattle.hlc_arena.proofs.KnownMore.{given-places_more}

module _ (f g : ℕ → List ℕ) where
  given_alike : (n : ℕ) → ((e : ℕ) → e < n → f e ≡ g e) → flat_map f (places_below n) ≡ flat_map g (places_below n)
  given_alike zero same = refl
  given_alike (suc n) same =
      given-places_more f n
      ∙ ap (λ (ws : List ℕ). ws ++ f n) (given_alike n (λ e lt. same e (omega arith)))
      ∙ ap (λ (ws : List ℕ). flat_map g (places_below n) ++ ws) (same n (omega arith))
      ∙ sym (given-places_more g n)

  pub given_below : (n k : ℕ) → ((e : ℕ) → e < n → f e ≡ g e) → ((e : ℕ) → n ≤ e → e < n + k → f e ≡ [])
      → flat_map f (places_below (n + k)) ≡ flat_map g (places_below n)
  given_below n zero same none = let all : n + 0 ≡ n = omega arith in ap (λ (m : ℕ). flat_map f (places_below m)) all ∙ given_alike n same
  given_below n (suc k) same none =
      let next : n + suc k ≡ suc (n + k) = omega arith in
      ap (λ (m : ℕ). flat_map f (places_below m)) next
      ∙ given-places_more f (n + k)
      ∙ ap (λ (ws : List ℕ). flat_map f (places_below (n + k)) ++ ws) (none (n + k) (omega arith) (omega arith))
      ∙ append-nil (flat_map f (places_below (n + k)))
      ∙ given_below n k same (λ e from lt. none e from (omega arith))
