-- The direct predecessors of an event.
use Rattle.std.proofs.Common.{◌≡◌, ◌≢◌, ℕ, zero, suc, ◌<◌, ◌≤◌, ◌⊎◌, inl, inr, length, arith, refl, subst, sym, ◌∙◌, Option, Some, None}
use Rattle.std.proofs.lemmas.Bool.{cases_eq, cases_lt}
use Rattle.hlc_causality.specs.Causality.{IsDirectPredecessor, IsEarlierAtNode, IsPrevious, IsSendOf, Precedes, Skeleton, skeleton_at}

pub direct_precedes : (s : Skeleton) (e f : ℕ) → IsDirectPredecessor s e f → Precedes s e f
direct_precedes s e f (inl h) = inl h.at_node
direct_precedes s e f (inr h) = inr h

pub precedes_earlier : (s : Skeleton) (e f : ℕ) → Precedes s e f → (e < f) × (f < length s)
precedes_earlier s e f (inl h) = (h.earlier, h.exists)
precedes_earlier s e f (inr h) = (h.earlier, h.exists)

pub direct_earlier : (s : Skeleton) (d f : ℕ) → IsDirectPredecessor s d f → d < f
direct_earlier s d f h = (precedes_earlier s d f (direct_precedes s d f h)).0

pub direct_exists : (s : Skeleton) (d f : ℕ) → IsDirectPredecessor s d f → f < length s
direct_exists s d f h = (precedes_earlier s d f (direct_precedes s d f h)).1

-- below the place of another node's event too
pub below_other :
    (s : Skeleton) (f k : ℕ) → ((m : ℕ) → IsEarlierAtNode s m f → m < suc k) → (skeleton_at s k).node ≢ (skeleton_at s f).node →
    (m : ℕ) → IsEarlierAtNode s m f → m < k
below_other s f k all other m h =
    elim (cases_eq m k) [
      | inl same ↦ absurd (other (subst (λ x. (skeleton_at s x).node ≡ (skeleton_at s f).node) same h.same_node))
      | inr ne ↦ let lt : m < suc k = all m h in omega arith
    ]

-- the previous event of f, if all earlier events of its node are below k
latest_below :
    (s : Skeleton) (f k : ℕ) → f < length s → k ≤ f → ((m : ℕ) → IsEarlierAtNode s m f → m < k) →
    ((d : ℕ) × IsPrevious s d f) ⊎ ((m : ℕ) → ¬ IsEarlierAtNode s m f)
latest_below s f zero exists le all = inr (λ m h. let no : m < 0 = all m h in omega arith)
latest_below s f (suc k) exists le all =
    elim (cases_eq (skeleton_at s k).node (skeleton_at s f).node) [
      | inl same ↦ inl (k, record { at_node = record { earlier = omega arith; exists = exists; same_node = same }; latest = λ m h. let lt : m < suc k = all m h in omega arith })
      | inr other ↦ latest_below s f k exists (omega arith) (below_other s f k all other)
    ]

-- an event has a previous one, or is the first of its node
pub previous_or_first : (s : Skeleton) (f : ℕ) → f < length s → ((d : ℕ) × IsPrevious s d f) ⊎ ((m : ℕ) → ¬ IsEarlierAtNode s m f)
previous_or_first s f exists = latest_below s f f exists (omega arith) (λ m h. h.earlier)

pub previous_is_unique : (s : Skeleton) (d e f : ℕ) → IsPrevious s d f → IsPrevious s e f → d ≡ e
previous_is_unique s d e f a b = let x : d ≤ e = b.latest d a.at_node in let y : e ≤ d = a.latest e b.at_node in omega arith

pub send_is_unique : (s : Skeleton) (d e f : ℕ) → IsSendOf s d f → IsSendOf s e f → d ≡ e
send_is_unique s d e f a b = let both : Some d ≡ Some e = sym a.delivers ∙ b.delivers in cc

send_or_none_of : (s : Skeleton) (f : ℕ) (o : Option ℕ) → (skeleton_at s f).send ≡ o
    → f < length s → ((e : ℕ) × IsSendOf s e f) ⊎ ((d : ℕ) → ¬ IsSendOf s d f)
send_or_none_of s f None is exists = inr (λ d h. let both : None ≡ Some d = sym is ∙ h.delivers in cc)
send_or_none_of s f (Some e) is exists =
    elim (cases_lt e f) [
      | inl lt ↦ inl (e, record { earlier = lt; exists = exists; delivers = is })
      | inr ge ↦
          inr (λ d h. let both : Some e ≡ Some d = sym is ∙ h.delivers in let same : e ≡ d = cc in let lt : d < f = h.earlier in absurd (omega arith))
    ]

-- an event delivers an earlier one, or none
pub send_or_none : (s : Skeleton) (f : ℕ) → f < length s → ((e : ℕ) × IsSendOf s e f) ⊎ ((d : ℕ) → ¬ IsSendOf s d f)
send_or_none s f exists = send_or_none_of s f (skeleton_at s f).send refl exists
