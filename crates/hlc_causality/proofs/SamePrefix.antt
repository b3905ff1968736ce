-- What stands at a place depends on no later place.
use Rattle.std.proofs.Common.{◌≡◌, ℕ, ◌+◌, ◌<◌, ◌≤◌, inl, inr, List, [], ◌∷◌, ◌++◌, length, take, min, arith, refl, subst, sym, ap, ◌∙◌, Option, None, Some}
use Rattle.std.proofs.lemmas.Bool.{cases_lt}
use Rattle.std.proofs.lemmas.List.{get_or-take, get_or_append_left, get_or_past, length-take, length_push}
use Rattle.hlc_stamp.specs.Order.{IsBelow, Pair, zero_pair}
use Rattle.hlc_causality.specs.Assignment.{IsAllowedAt, IsLeastAbove, pair_at}
use Rattle.hlc_causality.specs.Causality.{IsDirectPredecessor, IsEarlierAtNode, IsPrevious, IsSendOf, Skeleton, SkeletonEvent, skeleton_at}
use Rattle.hlc_causality.proofs.Predecessors.{direct_earlier}

-- what skeleton_at answers beyond the end
abbrev pub no_event : SkeletonEvent
no_event = record { node = 0; reading = 0; send = None }

no_send_past : (s : Skeleton) (f d : ℕ) → length s ≤ f → (skeleton_at s f).send ≡ Some d → ⊥
no_send_past s f d past is =
    let bad : ◌≡◌ {A = Option ℕ} None (Some d) = sym (ap (λ (e : SkeletonEvent). e.send) (get_or_past s f no_event past)) ∙ is in
    cc

-- an event that has a send is there
pub sent_within : (s : Skeleton) (f d : ℕ) → (skeleton_at s f).send ≡ Some d → f < length s
sent_within s f d is = elim (cases_lt f (length s)) [ inl lt ↦ lt | inr past ↦ absurd (no_send_past s f d past is) ]

-- two skeletons both have a place f, and are the same up to it
pub record IsSameUpTo (s t : Skeleton) (f : ℕ) : Type 0 where
  pub left : f < length s
  pub right : f < length t
  pub events : (e : ℕ) → e ≤ f → skeleton_at s e ≡ skeleton_at t e

pub same_back : (s t : Skeleton) (f : ℕ) → IsSameUpTo s t f → IsSameUpTo t s f
same_back s t f h = record { left = h.right; right = h.left; events = λ e le. sym (h.events e le) }

pub same_itself : (s : Skeleton) (f : ℕ) → f < length s → IsSameUpTo s s f
same_itself s f h = record { left = h; right = h; events = λ e le. refl }

pub same_at_push : (s : Skeleton) (x : SkeletonEvent) (f : ℕ) → f < length s → IsSameUpTo s (s ++ x ∷ []) f
same_at_push s x f lt = record {
  left = lt;
  right = let longer : length (s ++ x ∷ []) ≡ length s + 1 = length_push s x in omega arith;
  events = λ e le. sym (get_or_append_left s (x ∷ []) no_event e (omega arith));
}

pub same_at_take : (s : Skeleton) (n f : ℕ) → f < n → f < length s → IsSameUpTo s (take n s) f
same_at_take s n f lt exists = record {
  left = exists;
  right = let shorter : length (take n s) ≡ min n (length s) = length-take n s in omega arith;
  events = λ e le. sym (get_or-take n s e no_event (omega arith));
}

pub earlier_moves : (s t : Skeleton) (f : ℕ) → IsSameUpTo s t f → (e : ℕ) → IsEarlierAtNode s e f → IsEarlierAtNode t e f
earlier_moves s t f same e h =
    let lt : e < f = h.earlier in
    record {
      earlier = lt;
      exists = same.right;
      same_node =
          sym (ap (λ (x : SkeletonEvent). x.node) (same.events e (omega arith)))
          ∙ h.same_node
          ∙ ap (λ (x : SkeletonEvent). x.node) (same.events f (omega arith));
    }

pub previous_moves : (s t : Skeleton) (f : ℕ) → IsSameUpTo s t f → (e : ℕ) → IsPrevious s e f → IsPrevious t e f
previous_moves s t f same e h = record {
  at_node = earlier_moves s t f same e h.at_node;
  latest = λ m k. h.latest m (earlier_moves t s f (same_back s t f same) m k);
}

pub send_moves : (s t : Skeleton) (f : ℕ) → IsSameUpTo s t f → (e : ℕ) → IsSendOf s e f → IsSendOf t e f
send_moves s t f same e h = record {
  earlier = h.earlier;
  exists = same.right;
  delivers = sym (ap (λ (x : SkeletonEvent). x.send) (same.events f (omega arith))) ∙ h.delivers;
}

pub direct_moves : (s t : Skeleton) (f : ℕ) → IsSameUpTo s t f → (e : ℕ) → IsDirectPredecessor s e f → IsDirectPredecessor t e f
direct_moves s t f same e (inl h) = inl (previous_moves s t f same e h)
direct_moves s t f same e (inr h) = inr (send_moves s t f same e h)

-- what is allowed at f stays allowed if the skeletons are the same up to f and the pairs are the same below f
pub allowed_at_moves :
    (s t : Skeleton) (pairs others : List Pair) (f : ℕ) (p : Pair) → IsSameUpTo s t f
    → ((d : ℕ) → d < f → pair_at pairs d ≡ pair_at others d) →
    IsAllowedAt s pairs f p → IsAllowedAt t others f p
allowed_at_moves s t pairs others f p same pairs_same allowed = record {
  above = λ d h.
      let back = direct_moves t s f (same_back s t f same) d h in
      subst (λ (x : Pair). IsBelow x p) (pairs_same d (direct_earlier s d f back)) (allowed.above d back);
  not_behind = subst (λ (x : SkeletonEvent). x.reading ≤ p.l) (same.events f (omega arith)) allowed.not_behind;
}

pub least_above_moves :
    (s t : Skeleton) (pairs others : List Pair) (f : ℕ) (p : Pair) → IsSameUpTo s t f
    → ((d : ℕ) → d < f → pair_at pairs d ≡ pair_at others d) →
    IsLeastAbove s pairs f p → IsLeastAbove t others f p
least_above_moves s t pairs others f p same pairs_same least = record {
  allowed = allowed_at_moves s t pairs others f p same pairs_same least.allowed;
  least = λ q a. least.least q (allowed_at_moves t s others pairs f q (same_back s t f same) (λ d lt. sym (pairs_same d lt)) a);
}

pub pairs_at_push : (pairs : List Pair) (p : Pair) (d : ℕ) → d < length pairs → pair_at pairs d ≡ pair_at (pairs ++ p ∷ []) d
pairs_at_push pairs p d lt = sym (get_or_append_left pairs (p ∷ []) zero_pair d lt)

pub pairs_at_take : (pairs : List Pair) (n d : ℕ) → d < n → pair_at pairs d ≡ pair_at (take n pairs) d
pairs_at_take pairs n d lt = sym (get_or-take n pairs d zero_pair lt)
