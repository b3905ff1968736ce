-- The functions of direct predecessors agree with the relations.
use Rattle.std.proofs.Common.{◌≡◌, ◌≢◌, ◌∙◌, ℕ, zero, suc, ◌==◌, ◌<◌, ◌≤◌, inl, inr, length, Option, Some, None, arith, refl, sym}
use Rattle.std.specs.Prelude.{nat_lt}
use Rattle.std.proofs.lemmas.Bool.{cases_Bool}
use Rattle.std.proofs.lemmas.Bool.Decides.{nat_tests}
use Rattle.hlc_causality.specs.Causality.{IsEarlierAtNode, IsPrevious, IsSendOf, Skeleton, skeleton_at}
use Rattle.hlc_causality.proofs.Predecessors.{below_other}
use Rattle.hlc_causality.specs.Predecessors.{if_earlier, latest_before, previous_of, send_of}

-- an event of which P holds, or none if P holds of no event
abbrev pub Finds : (ℕ → Type 0) → Option ℕ → Type 0
Finds P None = (d : ℕ) → ¬ P d
Finds P (Some d) = P d

latest_found :
    (s : Skeleton) (f k : ℕ) → f < length s → k ≤ f → ((m : ℕ) → IsEarlierAtNode s m f → m < k) →
    Finds (λ d. IsPrevious s d f) (latest_before s (skeleton_at s f).node k)
latest_found s f zero exists le all = λ d h. let no : d < 0 = all d h.at_node in omega arith
latest_found s f (suc k) exists le all =
    elim (cases_Bool ((skeleton_at s k).node == (skeleton_at s f).node)) [
      | inl test ↦
          let same : (skeleton_at s k).node ≡ (skeleton_at s f).node = grind (arith, nat_tests, test) in
          rw test (record {
            at_node = record { earlier = omega arith; exists = exists; same_node = same };
            latest = λ m h. let lt : m < suc k = all m h in omega arith;
          })
      | inr test ↦
          let other : (skeleton_at s k).node ≢ (skeleton_at s f).node = λ same. grind (arith, nat_tests, test, same) in
          rw test (latest_found s f k exists (omega arith) (below_other s f k all other))
    ]

pub previous_found : (s : Skeleton) (f : ℕ) → f < length s → Finds (λ d. IsPrevious s d f) (previous_of s f)
previous_found s f exists = latest_found s f f exists (omega arith) (λ m h. h.earlier)

send_found_in : (s : Skeleton) (f : ℕ) (o : Option ℕ) → (skeleton_at s f).send ≡ o
    → f < length s → Finds (λ d. IsSendOf s d f) (if_earlier f o)
send_found_in s f None is exists = λ d h. let both : None ≡ Some d = sym is ∙ h.delivers in cc
send_found_in s f (Some e) is exists =
    elim (cases_Bool (nat_lt e f)) [
      | inl test ↦ let earlier : e < f = grind (arith, nat_tests, test) in rw test (record { earlier = earlier; exists = exists; delivers = is })
      | inr test ↦
          let later : f ≤ e = grind (arith, nat_tests, test) in
          rw test (λ d h. let both : Some e ≡ Some d = sym is ∙ h.delivers in let same : e ≡ d = cc in let lt : d < f = h.earlier in absurd (omega arith))
    ]

pub send_found : (s : Skeleton) (f : ℕ) → f < length s → Finds (λ d. IsSendOf s d f) (send_of s f)
send_found s f exists = send_found_in s f (skeleton_at s f).send refl exists
