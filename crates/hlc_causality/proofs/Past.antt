-- Happened-before by its steps, and as walks over direct predecessors.
use Rattle.std.proofs.Common.{ℕ, zero, suc, ◌+◌, ◌<◌, ◌≤◌, inl, inr, List, [], ◌∷◌, ◌++◌, length, arith, refl, subst, sym, ◌∙◌}
use Rattle.std.proofs.lemmas.Bool.{cases_eq}
use Rattle.hlc_causality.specs.Causality.{HappenedBefore, IsDirectPredecessor, IsEarlierAtNode, IsPath, Precedes, Skeleton}
use Rattle.hlc_causality.specs.Past.{IsInPast, LeadsTo}
use Rattle.hlc_causality.specs.Laws.{FirstStepIsDirect, LastStepIsDirect, WalksFindThePast}
use Rattle.hlc_causality.proofs.Predecessors.{direct_precedes, precedes_earlier, previous_or_first}

path_earlier : (s : Skeleton) (e : ℕ) (between : List ℕ) (f : ℕ) → IsPath s e between f → (e < f) × (f < length s)
path_earlier s e [] f h = precedes_earlier s e f h
path_earlier s e (m ∷ between) f h =
    let a = precedes_earlier s e m h.0 in let b = path_earlier s m between f h.1 in (omega arith, b.1)

pub happened_before_earlier : (s : Skeleton) (e f : ℕ) → HappenedBefore s e f → (e < f) × (f < length s)
happened_before_earlier s e f h = path_earlier s e h.0 f h.1

pub direct_happened_before : (s : Skeleton) (d f : ℕ) → IsDirectPredecessor s d f → HappenedBefore s d f
direct_happened_before s d f h = ([], direct_precedes s d f h)

join : (s : Skeleton) (e : ℕ) (xs : List ℕ) (m : ℕ) (ys : List ℕ) (f : ℕ) → IsPath s e xs m → IsPath s m ys f → IsPath s e (xs ++ m ∷ ys) f
join s e [] m ys f h g = (h, g)
join s e (n ∷ xs) m ys f h g = (h.0, join s n xs m ys f h.1 g)

pub happened_before_trans : (s : Skeleton) (e m f : ℕ) → HappenedBefore s e m → HappenedBefore s m f → HappenedBefore s e f
happened_before_trans s e m f h g = (h.0 ++ m ∷ g.0, join s e h.0 m g.0 f h.1 g.1)

pub past_then : (s : Skeleton) (e m f : ℕ) → IsInPast s e m → HappenedBefore s m f → HappenedBefore s e f
past_then s e m f (inl same) g = subst (λ x. HappenedBefore s x f) (sym same) g
past_then s e m f (inr h) g = happened_before_trans s e m f h g

pub then_past : (s : Skeleton) (e m f : ℕ) → HappenedBefore s e m → IsInPast s m f → HappenedBefore s e f
then_past s e m f h (inl same) = subst (λ x. HappenedBefore s e x) same h
then_past s e m f h (inr g) = happened_before_trans s e m f h g

pub past_trans : (s : Skeleton) (e m f : ℕ) → IsInPast s e m → IsInPast s m f → IsInPast s e f
past_trans s e m f h (inl same) = subst (λ x. IsInPast s e x) same h
past_trans s e m f h (inr g) = inr (past_then s e m f h g)

pub past_exists : (s : Skeleton) (e f : ℕ) → f < length s → IsInPast s e f → e < length s
past_exists s e f exists (inl same) = omega arith
past_exists s e f exists (inr h) = let at = happened_before_earlier s e f h in omega arith

walk_through : (s : Skeleton) (e : ℕ) (xs : List ℕ) (m : ℕ) (ys : List ℕ) (f : ℕ)
    → LeadsTo s e xs m → LeadsTo s m ys f → LeadsTo s e (xs ++ ys) f
walk_through s e [] m ys f h g = subst (λ x. LeadsTo s x ys f) (sym h) g
walk_through s e (n ∷ xs) m ys f h g = (h.0, walk_through s n xs m ys f h.1 g)

walk_at_node : (s : Skeleton) (n e f : ℕ) → f ≤ e + n → IsEarlierAtNode s e f → (walk : List ℕ) × LeadsTo s e walk f
walk_at_node s zero e f near h = absurd (omega (arith, h.earlier))
walk_at_node s (suc n) e f near h =
    elim (previous_or_first s f h.exists) [
      | inr none ↦ absurd (none e h)
      | inl found ↦
          elim (cases_eq e found.0) [
            | inl same ↦ (f ∷ [], (subst (λ x. IsDirectPredecessor s x f) (sym same) (inl found.1), refl))
            | inr ne ↦
                let le : e ≤ found.0 = found.1.latest e h in
                let lt : found.0 < f = found.1.at_node.earlier in
                let there : found.0 < length s = omega (arith, h.exists) in
                let same_node = h.same_node ∙ sym found.1.at_node.same_node in
                let before : IsEarlierAtNode s e found.0 = record { earlier = omega arith; exists = there; same_node = same_node } in
                let walk = walk_at_node s n e found.0 (omega arith) before in
                (walk.0 ++ f ∷ [], walk_through s e walk.0 found.0 (f ∷ []) f walk.1 (inl found.1, refl))
          ]
    ]

walk_step : (s : Skeleton) (e f : ℕ) → Precedes s e f → (walk : List ℕ) × LeadsTo s e walk f
walk_step s e f (inl h) = walk_at_node s f e f (omega arith) h
walk_step s e f (inr h) = (f ∷ [], (inr h, refl))

walk_along : (s : Skeleton) (e : ℕ) (between : List ℕ) (f : ℕ) → IsPath s e between f → (walk : List ℕ) × LeadsTo s e walk f
walk_along s e [] f h = walk_step s e f h
walk_along s e (m ∷ between) f h =
    let first = walk_step s e m h.0 in
    let rest = walk_along s m between f h.1 in
    (first.0 ++ rest.0, walk_through s e first.0 m rest.0 f first.1 rest.1)

walk_of : (s : Skeleton) (e f : ℕ) → IsInPast s e f → (walk : List ℕ) × LeadsTo s e walk f
walk_of s e f (inl same) = ([], same)
walk_of s e f (inr h) = walk_along s e h.0 f h.1

past_of : (s : Skeleton) (e : ℕ) (rest : List ℕ) (f : ℕ) → LeadsTo s e rest f → IsInPast s e f
past_of s e [] f h = inl h
past_of s e (m ∷ rest) f h = inr (then_past s e m f (direct_happened_before s e m h.0) (past_of s m rest f h.1))

pub walks_find_the_past : WalksFindThePast
walks_find_the_past s e f = (walk_of s e f, λ walk. past_of s e walk.0 f walk.1)

first_of_walk : (s : Skeleton) (e : ℕ) (rest : List ℕ) (f : ℕ)
    → e < f → LeadsTo s e rest f → (m : ℕ) × IsDirectPredecessor s e m × IsInPast s m f
first_of_walk s e [] f lt h = absurd (omega arith)
first_of_walk s e (m ∷ rest) f lt h = (m, h.0, past_of s m rest f h.1)

pub first_step_is_direct : FirstStepIsDirect
first_step_is_direct s e f = (
  λ h. let walk = walk_along s e h.0 f h.1 in first_of_walk s e walk.0 f (happened_before_earlier s e f h).0 walk.1,
  λ step. then_past s e step.0 f (direct_happened_before s e step.0 step.1) step.2,
)

last_from :
    (s : Skeleton) (e m : ℕ) (rest : List ℕ) (f : ℕ) → IsDirectPredecessor s e m → LeadsTo s m rest f →
    (d : ℕ) × IsInPast s e d × IsDirectPredecessor s d f
last_from s e m [] f direct h = (e, inl refl, subst (λ x. IsDirectPredecessor s e x) h direct)
last_from s e m (n ∷ rest) f direct h =
    let last = last_from s m n rest f h.0 h.1 in
    (last.0, inr (then_past s e m last.0 (direct_happened_before s e m direct) last.1), last.2)

last_of_walk : (s : Skeleton) (e : ℕ) (rest : List ℕ) (f : ℕ)
    → e < f → LeadsTo s e rest f → (d : ℕ) × IsInPast s e d × IsDirectPredecessor s d f
last_of_walk s e [] f lt h = absurd (omega arith)
last_of_walk s e (m ∷ rest) f lt h = last_from s e m rest f h.0 h.1

pub last_step_is_direct : LastStepIsDirect
last_step_is_direct s e f = (
  λ h. let walk = walk_along s e h.0 f h.1 in last_of_walk s e walk.0 f (happened_before_earlier s e f h).0 walk.1,
  λ step. past_then s e step.0 f step.1 (direct_happened_before s step.0 f step.2),
)

-- a transitive relation that holds from each direct predecessor holds along happened-before
module _ (s : Skeleton) (R : ℕ → ℕ → Type 0) (trans : (d e f : ℕ) → R d e → R e f → R d f)
    (direct : (d f : ℕ) → IsDirectPredecessor s d f → R d f) where
  holds_below : (n e f : ℕ) → f < n → HappenedBefore s e f → R e f
  holds_below zero e f lt h = absurd (omega (arith, lt))
  holds_below (suc n) e f lt h =
      let last = (last_step_is_direct s e f).0 h in
      let d = last.0 in
      let step = direct d f last.2 in
      elim last.1 [
        | inl same ↦ subst (λ x. R x f) (sym same) step
        | inr before ↦
            let earlier = happened_before_earlier s d f (direct_happened_before s d f last.2) in
            trans e d f (holds_below n e d (omega arith) before) step
      ]

  pub holds_along : (e f : ℕ) → HappenedBefore s e f → R e f
  holds_along e f h = holds_below (suc f) e f (omega arith) h
