-- The path that is followed back is a shortest one.
use Rattle.std.proofs.Common.{◌≡◌, ◌≢◌, ◌⊎◌, ℕ, zero, suc, ◌+◌, ◌==◌, ◌<◌, ◌≤◌, inl, inr, List, [], ◌∷◌, ◌++◌, length, Option, Some, None, arith, refl, subst, sym, ap}
use Rattle.std.specs.Prelude.{nat_le, option_map}
use Rattle.std.proofs.lemmas.Bool.{cases_Bool}
use Rattle.std.proofs.lemmas.Bool.Decides.{nat_tests}
use Rattle.std.proofs.lemmas.List.{length_push}
use Rattle.hlc_causality.specs.Causality.{IsDirectPredecessor, IsPrevious, IsSendOf, Skeleton}
use Rattle.hlc_causality.specs.Past.{LeadsTo}
use Rattle.hlc_causality.specs.Predecessors.{previous_of, send_of}
use Rattle.hlc_causality.proofs.Past.{walks_find_the_past}
use Rattle.hlc_causality.proofs.Predecessors.{direct_earlier, previous_is_unique, send_is_unique}
use Rattle.hlc_causality.proofs.PredecessorsFound.{Finds, previous_found, send_found}
use Rattle.hlc_explain.specs.Paths.{IsDirectPath, IsPathFound, PathsAreFound, path_of, path_to, path_within, shorter}

-- along a path places rise
pub leads_rise : (s : Skeleton) (e : ℕ) (rest : List ℕ) (f : ℕ) → LeadsTo s e rest f → e + length rest ≤ f
leads_rise s e [] f h = omega (arith, h)
leads_rise s e (m ∷ rest) f h = let lt = direct_earlier s e m h.0 in let more = leads_rise s m rest f h.1 in omega arith

leads_push : (s : Skeleton) (e : ℕ) (rest : List ℕ) (d f : ℕ) → LeadsTo s e rest d → IsDirectPredecessor s d f → LeadsTo s e (rest ++ f ∷ []) f
leads_push s e [] d f h direct = (subst (λ m. IsDirectPredecessor s m f) (sym h) direct, refl)
leads_push s e (m ∷ rest) d f h direct = (h.0, leads_push s m rest d f h.1 direct)

path_push : (s : Skeleton) (e : ℕ) (path : List ℕ) (d f : ℕ) → IsDirectPath s e path d → IsDirectPredecessor s d f
    → IsDirectPath s e (path ++ f ∷ []) f
path_push s e [] d f h direct = absurd h
path_push s e (first ∷ rest) d f h direct = (h.0, leads_push s e rest d f h.1 direct)

-- a path with more than one event has a last step
last_step : (s : Skeleton) (e m : ℕ) (rest : List ℕ) (f : ℕ) → IsDirectPredecessor s e m → LeadsTo s m rest f
    → (d : ℕ) × (before : List ℕ) × LeadsTo s e before d × IsDirectPredecessor s d f × (length before ≡ length rest)
last_step s e m [] f direct h = (e, [], refl, subst (λ x. IsDirectPredecessor s e x) h direct, refl)
last_step s e m (n ∷ rest) f direct h =
    let more = last_step s m n rest f h.0 h.1 in
    (more.0, m ∷ more.1, (direct, more.2), more.3, ap suc more.4)

path_back : (s : Skeleton) (e : ℕ) (path : List ℕ) (f : ℕ) → e ≢ f → IsDirectPath s e path f
    → (d : ℕ) × (before : List ℕ) × IsDirectPath s e before d × IsDirectPredecessor s d f × (length before + 1 ≡ length path)
path_back s e [] f ne h = absurd h
path_back s e (first ∷ []) f ne h = absurd (ne h.1)
path_back s e (first ∷ (m ∷ rest)) f ne h =
    let last = last_step s e m rest f h.1.0 h.1.1 in
    (last.0, e ∷ last.1, (refl, last.2), last.3, omega (arith, last.4))

module _ (s : Skeleton) (e : ℕ) where
  -- what is found is a shortest path to one of some events, or there is none
  abbrev IsBest : (ℕ → Type 0) → Option (List ℕ) → Type 0
  IsBest P None = (d : ℕ) (other : List ℕ) → P d → ¬ IsDirectPath s e other d
  IsBest P (Some path) =
      ((d : ℕ) × P d × IsDirectPath s e path d) × ((d : ℕ) (other : List ℕ) → P d → IsDirectPath s e other d → length path ≤ length other)

  best_to :
      (P : ℕ → Type 0) (path : ℕ → Option (List ℕ)) (link : Option ℕ) → ((d x : ℕ) → P d → P x → d ≡ x) →
      ((d : ℕ) → P d → IsBest (λ x. x ≡ d) (path d)) → Finds P link → IsBest P (path_to path link)
  best_to P path None unique best none = λ d other h. absurd (none d h)
  best_to P path (Some x) unique best found = best_at (path x) (best x found)
    where
      best_at : (o : Option (List ℕ)) → IsBest (λ d. d ≡ x) o → IsBest P o
      best_at None none = λ d other h. none d other (unique d x h found)
      best_at (Some p) h = (
        (x, found, subst (λ d. IsDirectPath s e p d) h.0.1 h.0.2),
        λ d other is. h.1 d other (unique d x is found),
      )

  best_of : (P Q : ℕ → Type 0) (a b : Option (List ℕ)) → IsBest P a → IsBest Q b → IsBest (λ d. P d ⊎ Q d) (shorter a b)
  best_of P Q None None p q = λ d other h. elim h [ inl is ↦ p d other is | inr is ↦ q d other is ]
  best_of P Q None (Some b) p q = (
    (q.0.0, inr q.0.1, q.0.2),
    λ d other h leads. elim h [ inl is ↦ absurd (p d other is leads) | inr is ↦ q.1 d other is leads ],
  )
  best_of P Q (Some a) None p q = (
    (p.0.0, inl p.0.1, p.0.2),
    λ d other h leads. elim h [ inl is ↦ p.1 d other is leads | inr is ↦ absurd (q d other is leads) ],
  )
  best_of P Q (Some a) (Some b) p q = elim (cases_Bool (nat_le (length a) (length b))) [
    | inl test ↦
        let less : length a ≤ length b = grind (arith, nat_tests, test) in
        rw test (
          (p.0.0, inl p.0.1, p.0.2),
          λ d other h leads. elim h [ inl is ↦ p.1 d other is leads | inr is ↦ let far = q.1 d other is leads in omega arith ],
        )
    | inr test ↦
        let more : length b < length a = grind (arith, nat_tests, test) in
        rw test (
          (q.0.0, inr q.0.1, q.0.2),
          λ d other h leads. elim h [ inl is ↦ let far = p.1 d other is leads in omega arith | inr is ↦ q.1 d other is leads ],
        )
  ]

  best_then : (f : ℕ) (o : Option (List ℕ)) → e ≢ f → IsBest (λ d. IsDirectPredecessor s d f) o
      → IsBest (λ x. x ≡ f) (option_map (λ path. path ++ f ∷ []) o)
  best_then f None ne none = λ d other is leads.
      let back = path_back s e other f ne (subst (λ x. IsDirectPath s e other x) is leads) in none back.0 back.1 back.3 back.2
  best_then f (Some path) ne h = (
    (f, refl, path_push s e path h.0.0 f h.0.2 h.0.1),
    λ d other is leads.
        let back = path_back s e other f ne (subst (λ x. IsDirectPath s e other x) is leads) in
        let least = h.1 back.0 back.1 back.3 back.2 in
        let longer = length_push path f in
        let size = back.4 in
        omega arith,
  )

  best_alone : (f : ℕ) → e ≡ f → IsBest (λ x. x ≡ f) (Some (f ∷ []))
  best_alone f same = ((f, refl, (sym same, same)), λ d other is leads. at_least_one other d leads)
    where
      at_least_one : (other : List ℕ) (d : ℕ) → IsDirectPath s e other d → 1 ≤ length other
      at_least_one [] d leads = absurd leads
      at_least_one (first ∷ rest) d leads = omega arith

  best_within : (n f : ℕ) → f < n → f < length s → IsBest (λ x. x ≡ f) (path_within s e n f)
  best_within zero f lt exists = absurd (omega (arith, lt))
  best_within (suc n) f lt exists = elim (cases_Bool (e == f)) [
    | inl here ↦ let same : e ≡ f = grind (arith, nat_tests, here) in rw here (best_alone f same)
    | inr apart ↦
        let differ : e ≢ f = λ same. grind (arith, nat_tests, apart, same) in
        let below : (d : ℕ) → IsDirectPredecessor s d f → IsBest (λ x. x ≡ d) (path_within s e n d) = λ d direct.
        let earlier = direct_earlier s d f direct in
        best_within n d (omega arith) (omega arith) in
        rw apart (best_then f _ differ (best_of (λ d. IsPrevious s d f) (λ d. IsSendOf s d f) _ _
        (best_to (λ d. IsPrevious s d f) (path_within s e n) (previous_of s f) (λ d x. previous_is_unique s d x f) (λ d h. below d (inl h)) (previous_found s f exists))
        (best_to (λ d. IsSendOf s d f) (path_within s e n) (send_of s f) (λ d x. send_is_unique s d x f) (λ d h. below d (inr h)) (send_found s f exists))))
  ]

  found_if_best : (f : ℕ) (o : Option (List ℕ)) → IsBest (λ x. x ≡ f) o → IsPathFound s e f o
  found_if_best f None none = λ past.
      let walk = (walks_find_the_past s e f).0 past in none f (e ∷ walk.0) refl (refl, walk.1)
  found_if_best f (Some path) h = record {
    leads = subst (λ x. IsDirectPath s e path x) h.0.1 h.0.2;
    shortest = λ other leads. h.1 f other refl leads;
  }

pub paths_are_found : PathsAreFound
paths_are_found s e f exists = found_if_best s e f (path_of s e f) (best_within s e (suc f) f (omega arith) exists)
